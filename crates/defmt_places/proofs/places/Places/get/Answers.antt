use Rattle.std.specs.Option.{option_copied}
use Rattle.defmt_places.proofs.InSlots.{place_is}
use Rattle.defmt_places.proofs.places.Places.get.Goals as goal

pub returns : goal.returns
returns c =
    place_is c.self.inside.slots.items c.as_slice.result.now c.args.self.now c.args.index (option_copied c.place_at.result) c.self.view_is
    c.as_slice.ensures.value c.place_at.ensures
