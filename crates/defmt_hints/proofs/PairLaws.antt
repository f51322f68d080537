-- A byte in two hexadecimal digits.
use Rattle.std.proofs.Common.{◌≡◌, ◌<◌, ◌/◌, ◌%◌, ℕ, zero, suc, Bool, true, false, eqb, List, [], ◌∷◌, ◌++◌, refl, ap, ◌∙◌, arith}
use Rattle.std.proofs.lemmas.Bool.{eqb-true}
use Rattle.std.proofs.lemmas.Int.Digits.{digits_of_step}
use Rattle.std.proofs.Math.Nat.{mod-eq_of_lt}
use Rattle.std.specs.Fmt.{digit_glyph}
use Rattle.std.specs.Int.Digits.{digits_of}
use Rattle.defmt_hints.specs.Digits.{number_text, zero_filled}
use Rattle.defmt_hints.proofs.DigitsLaws.{above_zero, number_text_zero, number_text_some, one_digit}

low_pair : (upper : Bool) (n : ℕ) → n < 16 → zero_filled 2 (number_text 16 upper n) ≡ 48 ∷ digit_glyph upper n ∷ []
unfolding zero_filled
low_pair upper zero lt = rw (number_text_zero 16 upper) refl
low_pair upper (suc n) lt =
    let some : 0 < suc n = omega arith in
    let one : digits_of 16 (suc n) ≡ suc n ∷ [] = one_digit 16 (suc n) (omega arith) some lt in
    rw (number_text_some 16 (suc n) upper some, one) refl

high_pair : (upper : Bool) (n : ℕ) → 0 < n / 16 → n < 256 → zero_filled 2 (number_text 16 upper n) ≡ digit_glyph upper (n / 16) ∷ digit_glyph upper (n % 16) ∷ []
unfolding zero_filled
high_pair upper n above lt =
    let two : digits_of 16 n ≡ (n / 16) ∷ (n % 16) ∷ [] =
    digits_of_step 16 n (omega arith) (omega arith)
    ∙ ap (λ (t : List ℕ). t ++ (n % 16) ∷ []) (one_digit 16 (n / 16) (omega arith) above (omega arith)) in
    rw (number_text_some 16 n upper (omega arith), two) refl

pair_by : (upper : Bool) (n : ℕ) (b : Bool) → eqb (n / 16) 0 ≡ b → n < 256 → zero_filled 2 (number_text 16 upper n) ≡ digit_glyph upper (n / 16) ∷ digit_glyph upper (n % 16) ∷ []
pair_by upper n true e lt =
    let q : n / 16 ≡ 0 = eqb-true (n / 16) 0 e in
    let small : n < 16 = omega arith in
    let r : n % 16 ≡ n = mod-eq_of_lt small in
    rw (q, r) (low_pair upper n small)
pair_by upper n false e lt = high_pair upper n (above_zero (n / 16) e) lt

-- the two digits of a byte
pub hex_pair : (upper : Bool) (n : ℕ) → n < 256 → zero_filled 2 (number_text 16 upper n) ≡ digit_glyph upper (n / 16) ∷ digit_glyph upper (n % 16) ∷ []
hex_pair upper n lt = pair_by upper n (eqb (n / 16) 0) refl lt
