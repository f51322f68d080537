use Rattle.std.proofs.Common.{sym, ◌∙◌}
use Rattle.defmt_places.specs.Slots.{map_of}
use Rattle.defmt_places.proofs.InSlots.{some_placed}
use Rattle.defmt_places.proofs.places.Places.put.Goals as goal

pub invariant_of-self-2 : goal.invariant_of-self-2
invariant_of-self-2 c =
    (λ t. absurd (cc t), λ e. absurd (some_placed (map_of c.self.inside.slots.items) c.args.index c.args.place.now (sym c.in_ok-keep.ensures.ok ∙ e)))
