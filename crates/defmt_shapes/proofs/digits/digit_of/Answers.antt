-- The table is held against the definition at each of the 256 bytes, by computing.
use Rattle.std.proofs.Common.{◌≡◌, ℕ, ◌<◌, ◌≤◌, Bool, true, false, map, cond, get_or, nat_lt, refl, ap, ◌∙◌, arith}
use Rattle.std.specs.Char.{digit_value}
use Rattle.std.specs.List.{range_with_len}
use Rattle.std.proofs.lemmas.Bool.{ltb-true, ltb-false}
use Rattle.std.proofs.lemmas.Bool.Decides.{nat_tests}
use Rattle.std.proofs.lemmas.List.FromFn.{get_or-map-range_with_len}
use Rattle.defmt_shapes.specs.declared.digits.TheConstants.{DIGITS}
use Rattle.defmt_shapes.proofs.digits.digit_of.Goals as goal

abbrev worth : ℕ → ℕ
worth c = cond (nat_lt (digit_value c) 16) (digit_value c) 255

table_is : DIGITS ≡ map worth (range_with_len 0 256)
table_is = refl

read : (c : ℕ) → c < 256 → get_or DIGITS c 0 ≡ worth c
read c h = ap (λ t. get_or t c 0) table_is ∙ get_or-map-range_with_len worth 0 256 c c 0 h (omega arith)

worth_is : (b : Bool) (v n : ℕ) → n ≡ cond b v 255 → n < 16 → n ≡ v
worth_is true v n e small = e
worth_is false v n e small = absurd (omega arith)

none_is : (b : Bool) (v n : ℕ) → nat_lt v 16 ≡ b → n ≡ cond b v 255 → (n < 16 → ⊥) → 16 ≤ v
none_is true v n small e not = absurd (not (rw e (ltb-true v 16 small)))
none_is false v n large e not = ltb-false v 16 large

pub returns-then-value-lt16 : goal.returns-then-value-lt16
returns-then-value-lt16 c =
    let small : get_or DIGITS c.args.digit 0 < 16 = grind (arith, nat_tests) in
    (worth_is (nat_lt (digit_value c.args.digit) 16) (digit_value c.args.digit) (get_or DIGITS c.args.digit 0) (read c.args.digit (omega arith)) small, small)

pub returns-else-value-lt16 : goal.returns-else-value-lt16
returns-else-value-lt16 c =
    let large : 16 ≤ get_or DIGITS c.args.digit 0 = grind (arith, nat_tests) in
    none_is (nat_lt (digit_value c.args.digit) 16) (digit_value c.args.digit) (get_or DIGITS c.args.digit 0) refl (read c.args.digit (omega arith)) (λ small. omega (arith, large, small))
