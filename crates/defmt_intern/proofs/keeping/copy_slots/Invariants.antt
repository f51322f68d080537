use Rattle.std.proofs.Common.{◌≡◌, take}
use Rattle.defmt_intern.specs.Table.{AreReadIn, entries_in}
use Rattle.defmt_intern.proofs.keeping.copy_slots.Given as goal

abbrev pub invariant-loop-slot : goal.invariant-loop-slot
invariant-loop-slot l = (entries_in l.copies.items ≡ entries_in (take l.slot-index l.slots)) × AreReadIn l.fn.language l.copies.items
