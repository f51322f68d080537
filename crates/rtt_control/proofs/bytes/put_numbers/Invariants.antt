use Rattle.std.proofs.Common.{◌≡◌, ◌+◌, ◌*◌, take}
use Rattle.std.specs.List.{flat_map}
use Rattle.rtt_control.specs.Layout.{with_bytes, word_bytes}
use Rattle.rtt_control.proofs.bytes.put_numbers.Given as goal

abbrev pub invariant-loop-n : goal.invariant-loop-n
invariant-loop-n l = (l.place ≡ l.at + 4 * l.n-index) × (l.image ≡ with_bytes l.initial.image l.at (flat_map word_bytes (take l.n-index l.words)))
