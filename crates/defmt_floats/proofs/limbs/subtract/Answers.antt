use Rattle.std.proofs.Common.{length, ◌<◌, subst}
use Rattle.core.specs.Dec2flt.Limbs.{limb_weight, value_below}
use Rattle.defmt_floats.proofs.LimbLaws.{value-lt, no_borrow}
use Rattle.defmt_floats.proofs.limbs.subtract.Goals as goal

pub returns : goal.returns
returns c =
    let s = c.subtract_with_borrow-borrow in
    let few = value-lt s.new.limbs (length s.new.limbs) (λ k. (c.type_inv.limbs k).fits) in
    no_borrow _ _ _ _ _ s.ensures (subst (λ n. value_below s.new.limbs (length s.new.limbs) < limb_weight n) s.auto.limbs few) c.requires.fits
