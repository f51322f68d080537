-- The digits of a number.
use Rattle.std.proofs.Common.{◌≡◌, ◌<◌, ◌≤◌, ◌+◌, ◌*◌, ◌-◌, ◌/◌, ◌%◌, ◌^◌, ℕ, zero, suc, Bool, true, false, eqb, List, [], ◌∷◌, ◌++◌, length, map, get_or, refl, sym, ap, ◌∙◌, arith, length-append, append_assoc}
use Rattle.std.proofs.lemmas.Bool.{eqb-true}
use Rattle.std.proofs.lemmas.Bool.Decides.{nat_tests}
use Rattle.std.proofs.lemmas.List.{append-nil, length-map, length-replicate}
use Rattle.std.proofs.lemmas.Int.Digits.{all_below_base_digits_of, digits_of_step, first_digits_of, length-digits_of-le, number_after_ge, number_digits_of}
use Rattle.std.proofs.lemmas.Nat.{div-mul-add, mod-mul-add}
use Rattle.std.proofs.Math.Nat.{pow-suc, pow-zero, mul-pos, div-eq_of_lt, mod-eq_of_lt}
use Rattle.std.specs.Fmt.{digit_glyph}
use Rattle.std.specs.Int.Digits.{AllBelowBase, digits_of, number_from_digits, number_from_digits_after}
use Rattle.std.specs.Prelude.{replicate}
use Rattle.defmt_hints.specs.Digits.{AreDigits, HasNoLeadingZero, weighted_sum, digits, number_text, zero_filled}

-- ---- the weighted sum

after_step : (base n d k w p : ℕ) → p ≡ base ^ k → (n * base + d) * base ^ k + w ≡ n * base ^ suc k + (d * base ^ k + w)
after_step base n d k w p e = rw pow-suc (grind arith)

unit_place : (base n : ℕ) → n * base ^ 0 + 0 ≡ n
unit_place base n = rw (pow-zero base) (omega arith)

pub number_after_is : (base n : ℕ) (ds : List ℕ) → number_from_digits_after base n ds ≡ n * base ^ length ds + weighted_sum base ds
number_after_is base n [] = sym (unit_place base n)
number_after_is base n (d ∷ ds) = number_after_is base (n * base + d) ds ∙ after_step base n d (length ds) (weighted_sum base ds) (base ^ length ds) refl

pub weighted_sum_is : (base : ℕ) (ds : List ℕ) → weighted_sum base ds ≡ number_from_digits base ds
weighted_sum_is base ds = let e = number_after_is base 0 ds in omega (arith, e)

-- ---- they are digits

some_first : (ds : List ℕ) → 0 < get_or ds 0 0 → HasNoLeadingZero ds
some_first [] h = absurd (omega arith)
some_first (d ∷ []) h = tt
some_first (d ∷ e ∷ ds) h = h

pub above_zero : (n : ℕ) → eqb n 0 ≡ false → 0 < n
above_zero n e = grind (arith, nat_tests)

pub no_zero : (n : ℕ) → 0 < n → eqb n 0 ≡ false
no_zero n h = grind (arith, nat_tests)

pub digits_zero : (base : ℕ) → digits base 0 ≡ 0 ∷ []
unfolding digits
digits_zero base = refl

pub digits_some : (base n : ℕ) → 0 < n → digits base n ≡ digits_of base n
unfolding digits
digits_some base n h = rw (no_zero n h) refl

are_by : (base n : ℕ) (b : Bool) → eqb n 0 ≡ b → 2 ≤ base → AreDigits base n (digits base n)
are_by base n true e two = rw (eqb-true n 0 e, digits_zero base) (record { below = (omega arith, tt); sum = grind arith; no_leading_zero = tt })
are_by base n false e two = rw (digits_some base n (above_zero n e)) (record {
  below = all_below_base_digits_of base n two;
  sum = weighted_sum_is base (digits_of base n) ∙ number_digits_of base n two;
  no_leading_zero = some_first (digits_of base n) (first_digits_of base n two (above_zero n e));
})

pub are_digits : (base n : ℕ) → 2 ≤ base → AreDigits base n (digits base n)
are_digits base n two = are_by base n (eqb n 0) refl two

-- ---- no other list is

above_product : (m base d : ℕ) → 0 < m → 0 < base → 0 < m * base + d
above_product m base d some b = omega (arith, mul-pos some b)

digits_after_one : (base m d : ℕ) → 2 ≤ base → 0 < m → d < base → digits_of base (m * base + d) ≡ digits_of base m ++ d ∷ []
digits_after_one base m d two some lt =
    let above : 0 < m * base + d = above_product m base d some (omega arith) in
    digits_of_step base (m * base + d) two above ∙ rw (div-mul-add m base d lt, mod-mul-add m base d lt) refl

digits_after : (base m : ℕ) (ds : List ℕ) → 2 ≤ base → 0 < m → AllBelowBase base ds → digits_of base (number_from_digits_after base m ds) ≡ digits_of base m ++ ds
digits_after base m [] two some h = sym (append-nil (digits_of base m))
digits_after base m (d ∷ ds) two some h =
    let above : 0 < m * base + d = above_product m base d some (omega arith) in
    digits_after base (m * base + d) ds two above h.1
    ∙ ap (λ (t : List ℕ). t ++ ds) (digits_after_one base m d two some h.0)
    ∙ append_assoc (digits_of base m) (d ∷ []) ds

pub one_digit : (base d : ℕ) → 2 ≤ base → 0 < d → d < base → digits_of base d ≡ d ∷ []
one_digit base d two some lt =
    let q : d / base ≡ 0 = div-eq_of_lt lt in
    let r : d % base ≡ d = mod-eq_of_lt lt in
    digits_of_step base d two some ∙ rw (q, r) refl

digits_from_first : (base d : ℕ) (ds : List ℕ) → 2 ≤ base → 0 < d → AllBelowBase base (d ∷ ds) → d ∷ ds ≡ digits base (weighted_sum base (d ∷ ds))
digits_from_first base d ds two some h =
    let zero_front : 0 * base + d ≡ d = omega arith in
    let e : weighted_sum base (d ∷ ds) ≡ number_from_digits_after base d ds = weighted_sum_is base (d ∷ ds) ∙ ap (λ (n : ℕ). number_from_digits_after base n ds) zero_front in
    let least : d ≤ number_from_digits_after base d ds = number_after_ge base d ds (omega arith) in
    let above : 0 < weighted_sum base (d ∷ ds) = omega (arith, e, least) in
    sym (digits_some base (weighted_sum base (d ∷ ds)) above
    ∙ ap (digits_of base) e
    ∙ digits_after base d ds two some h.1
    ∙ ap (λ (t : List ℕ). t ++ ds) (one_digit base d two some h.0))

lone_digit : (base d : ℕ) → 2 ≤ base → d < base → d ∷ [] ≡ digits base d
lone_digit base zero two lt = sym (digits_zero base)
lone_digit base (suc d) two lt = sym (digits_some base (suc d) (omega arith) ∙ one_digit base (suc d) two (omega arith) lt)

only_by : (base : ℕ) (ds : List ℕ) → 2 ≤ base → AllBelowBase base ds → HasNoLeadingZero ds → ds ≡ digits base (weighted_sum base ds)
only_by base [] two below h = absurd h
only_by base (d ∷ []) two below h = lone_digit base d two below.0 ∙ ap (digits base) (sym (unit_place base d))
only_by base (d ∷ e ∷ ds) two below h = digits_from_first base d (e ∷ ds) two h below

pub only_digits : (base n : ℕ) (ds : List ℕ) → 2 ≤ base → AreDigits base n ds → ds ≡ digits base n
only_digits base n ds two h = only_by base ds two h.below h.no_leading_zero ∙ ap (digits base) h.sum

-- ---- texts

pub number_text_zero : (base : ℕ) (upper : Bool) → number_text base upper 0 ≡ 48 ∷ []
unfolding number_text
number_text_zero base upper = rw (digits_zero base) refl

pub number_text_some : (base n : ℕ) (upper : Bool) → 0 < n → number_text base upper n ≡ map (digit_glyph upper) (digits_of base n)
unfolding number_text
number_text_some base n upper some = ap (map (digit_glyph upper)) (digits_some base n some)

text_fits_by : (base width n : ℕ) (upper : Bool) (b : Bool) → eqb n 0 ≡ b → 2 ≤ base → 0 < width → n < base ^ width → length (number_text base upper n) ≤ width
text_fits_by base width n upper true e two some lt = rw (eqb-true n 0 e, number_text_zero base upper) (omega arith)
text_fits_by base width n upper false e two some lt =
    let k : length (map (digit_glyph upper) (digits_of base n)) ≡ length (digits_of base n) = length-map (digits_of base n) (digit_glyph upper) in
    rw (number_text_some base n upper (above_zero n e)) (omega (arith, k, length-digits_of-le base width n two lt))

pub text_fits : (base width n : ℕ) (upper : Bool) → 2 ≤ base → 0 < width → n < base ^ width → length (number_text base upper n) ≤ width
text_fits base width n upper two some lt = text_fits_by base width n upper (eqb n 0) refl two some lt

pub length_zero_filled : (base width n : ℕ) (upper : Bool) → 2 ≤ base → 0 < width → n < base ^ width → length (zero_filled width (number_text base upper n)) ≡ width
unfolding zero_filled
length_zero_filled base width n upper two some lt =
    let fits : length (number_text base upper n) ≤ width = text_fits base width n upper two some lt in
    length-append (replicate (width - length (number_text base upper n)) 48) (number_text base upper n)
    ∙ ap (λ (k : ℕ). k + length (number_text base upper n)) (length-replicate (width - length (number_text base upper n)) 48)
    ∙ omega arith

pub zero_filled_none : (text : List ℕ) → zero_filled 0 text ≡ text
unfolding zero_filled
zero_filled_none text = let e : 0 - length text ≡ 0 = omega arith in rw e refl
