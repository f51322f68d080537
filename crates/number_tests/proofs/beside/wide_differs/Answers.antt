use Rattle.std.proofs.Common.{◌≤◌, ◌*◌, ◌%◌, ◌≡◌, false, T, not, ltb, arith, subst, sym, ◌∙◌}
use Rattle.std.proofs.lemmas.Bool.{le-ltb}
use Rattle.std.proofs.lemmas.Nat.{and_mask}
use lib.Ieee.{binary64, ones, hid, top}
use lib.Ieee.Bits.{nan_bits_above}
use Rattle.number_tests.proofs.beside.wide_differs.Goals as goal

pub float_from_bits-value : goal.float_from_bits-value
float_from_bits-value c =
    let few : c.args.bits % top binary64 ≤ ones binary64 * hid binary64 = omega (arith, rw (and_mask c.args.bits 63) at c.if-magnitude-gt-WIDE_INFINITY.false) in
    let clear : ltb (ones binary64 * hid binary64) (c.args.bits % top binary64) ≡ false = le-ltb _ _ few in
    subst (λ v. T (not v)) (sym (nan_bits_above binary64 c.args.bits ∙ clear)) tt
