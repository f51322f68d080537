use Rattle.std.proofs.Common.{◌+◌, ◌-◌, length}
use Rattle.defmt_spelling.specs.Names.{NameMap, AreNear}
use Rattle.defmt_spelling.proofs.near.keep_near.Given as goal

abbrev pub invariant-places : goal.invariant-places
invariant-places l = (names : NameMap) → AreNear names l.fn.near.items → AreNear names l.near.items

abbrev pub decreases-places : goal.decreases-places
decreases-places l = l.place + 1 - length l.near.items
