use Rattle.std.proofs.Common.{◌≡◌, ◌+◌, ◌*◌, take}
use Rattle.std.specs.List.{All, flat_map}
use Rattle.rtt_control.specs.Layout.{IsWords, with_bytes, descriptor_bytes}
use Rattle.rtt_control.proofs.bytes.put_descriptors.Given as goal

abbrev pub invariant-loop-d : goal.invariant-loop-d
invariant-loop-d l = record {
  place : l.place ≡ l.at + 24 * l.d-index;
  bytes : l.image ≡ with_bytes l.initial.image l.at (flat_map descriptor_bytes (take l.d-index l.list));
  words : All IsWords (take l.d-index l.list);
}
