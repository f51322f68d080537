use Rattle.std.proofs.Common.{◌≡◌, ◌++◌, map, drop}
use Rattle.defmt_grammar.specs.Positions.{front, held_slot, count_of}
use Rattle.defmt_grammar.proofs.positions.slots_in.Given as goal

abbrev pub invariant-entries : goal.invariant-entries
invariant-entries l = record {
  slots : map held_slot (front l.table) ≡ l.slots.items ++ map held_slot (front (drop l.entry-index l.table));
  counts : map count_of (front l.table) ≡ l.counts.items ++ map count_of (front (drop l.entry-index l.table));
}
