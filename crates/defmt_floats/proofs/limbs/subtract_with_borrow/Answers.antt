use Rattle.std.proofs.Common.{◌<◌, ◌^◌, length, get_or, refl, ◌∙◌, arith, rules, get_or-set_other}
use lib.Bits.{and_mask}
use Rattle.core.proofs.dec2flt.LimbsLemmas.{value_below-zero, value_below-suc, value_below-set, limb_weight-zero, limb_weight-suc}
use Rattle.defmt_floats.proofs.LimbLaws.{subtract_step}
use Rattle.defmt_floats.proofs.limbs.subtract_with_borrow.Goals as goal

pub loop-i-init : goal.loop-i-init
loop-i-init c = (rw (value_below-zero c.args.limbs.now, value_below-zero c.args.less.now, limb_weight-zero) (omega arith), λ k h. refl, omega arith)

pub loop-i-preserved : goal.loop-i-preserved
loop-i-preserved c =
    let l = c.loop-i in
    let within : l.i < length l.limbs = search rules in
    let same = l.invariant.1 l.i (omega arith) in
    let X : get_or l.limbs l.i 0 < 2 ^ 64 = search rules in
    let Y : get_or c.args.less.now l.i 0 < 2 ^ 64 = (c.type_inv.less l.i).fits in (
      rw (and_mask _ 64, value_below-set l.limbs l.i _ within, value_below-suc c.args.limbs.now l.i, value_below-suc c.args.less.now l.i, limb_weight-suc, ← same)
          (subtract_step _ _ _ _ _ _ _ X Y l.invariant.2 l.invariant.0),
      λ k h. get_or-set_other l.limbs l.i k _ 0 (λ e. omega arith) ∙ l.invariant.1 k (omega arith),
      omega arith,
    )
