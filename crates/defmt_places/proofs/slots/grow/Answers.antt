use Rattle.std.proofs.Common.{◌∙◌, ap}
use Rattle.defmt_places.specs.Slots.{map_of}
use Rattle.defmt_places.proofs.InSlots.{grown}
use Rattle.defmt_places.proofs.slots.grow.Goals as goal

pub each-preserved : goal.each-preserved
each-preserved c = ap map_of c.in_ok-push.ensures.items ∙ grown c.each.slots.items ∙ c.each.invariant
