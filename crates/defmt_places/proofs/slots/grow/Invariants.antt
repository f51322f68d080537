use Rattle.std.proofs.Common.{◌≡◌, ◌-◌, length}
use Rattle.defmt_places.specs.Slots.{map_of}
use Rattle.defmt_places.proofs.slots.grow.Given as goal

abbrev pub invariant-each : goal.invariant-each
invariant-each l = map_of l.slots.items ≡ map_of l.fn.slots.items

abbrev pub decreases-each : goal.decreases-each
decreases-each l = l.count - length l.slots.items
