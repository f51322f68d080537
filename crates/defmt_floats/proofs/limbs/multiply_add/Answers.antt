use Rattle.defmt_floats.proofs.LimbLaws.{no_carry}
use Rattle.defmt_floats.proofs.limbs.multiply_add.Goals as goal

pub returns : goal.returns
returns c =
    let m = c.multiply_add_with_carry-carry in
    no_carry _ _ _ _ m.ensures (rw m.auto.limbs c.requires)
