use Rattle.std.proofs.Common.{◌≡◌, ◌≤◌, ◌*◌, length, drop}
use Rattle.defmt_shapes.specs.Shape.{SpellsBytes}
use Rattle.defmt_shapes.proofs.quick.pairs.bytes_of.Given as goal

abbrev pub invariant-pairs : goal.invariant-pairs
invariant-pairs l = record {
  size : length l.bytes.items ≡ l.count;
  within : l.left ≤ l.count;
  spelled : SpellsBytes (drop (2 * l.left) l.digits) (drop l.left l.bytes.items);
}

abbrev pub decreases-pairs : goal.decreases-pairs
decreases-pairs l = l.left
