use Rattle.std.proofs.Common.{◌≡◌, length}
use Rattle.rtt_control.specs.Layout.{descriptors_at}
use Rattle.rtt_control.proofs.calls.read_descriptors.Given as goal

abbrev pub invariant-loop-i : goal.invariant-loop-i
invariant-loop-i l = (l.list ≡ descriptors_at l.image l.at l.i) × (length l.list ≡ l.i)
