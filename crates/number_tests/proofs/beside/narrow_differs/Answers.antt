use Rattle.std.proofs.Common.{◌≤◌, ◌*◌, ◌%◌, ◌≡◌, false, T, not, ltb, arith, subst, sym, ◌∙◌}
use Rattle.std.proofs.lemmas.Bool.{le-ltb}
use Rattle.std.proofs.lemmas.Nat.{and_mask}
use lib.Ieee.{binary32, ones, hid, top}
use lib.Ieee.Bits.{nan_bits_above}
use Rattle.number_tests.proofs.beside.narrow_differs.Goals as goal

pub float_from_bits-value : goal.float_from_bits-value
float_from_bits-value c =
    let few : c.args.bits % top binary32 ≤ ones binary32 * hid binary32 = omega (arith, rw (and_mask c.args.bits 31) at c.if-magnitude-gt-NARROW_INFINITY.false) in
    let clear : ltb (ones binary32 * hid binary32) (c.args.bits % top binary32) ≡ false = le-ltb _ _ few in
    subst (λ v. T (not v)) (sym (nan_bits_above binary32 c.args.bits ∙ clear)) tt
