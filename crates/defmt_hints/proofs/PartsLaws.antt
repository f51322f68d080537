-- The digits behind a decimal point.
use Rattle.std.proofs.Common.{◌≡◌, ◌<◌, ◌≤◌, ◌+◌, ◌*◌, ◌-◌, ◌^◌, ℕ, zero, suc, false, List, [], ◌∷◌, ◌++◌, length, map, drop, refl, sym, ap, ◌∙◌, arith}
use Rattle.std.proofs.lemmas.List.{length-append, length-map, length-replicate}
use Rattle.std.proofs.lemmas.Nat.{pow_pos}
use Rattle.std.proofs.Math.Nat.{pow-le-pow_left}
use Rattle.std.specs.Fmt.{decimal, digit_glyph}
use Rattle.std.specs.Int.Digits.{AllBelowBase}
use Rattle.std.specs.Prelude.{replicate}
use Rattle.defmt_hints.specs.Digits.{AreDigits, HasNoLeadingZero, weighted_sum, digits, number_text, zero_filled}
use Rattle.defmt_hints.specs.Printed.{decimal_text}
use Rattle.defmt_hints.proofs.Decimals.{std_decimal}
use Rattle.defmt_hints.proofs.DigitsLaws.{are_digits, only_digits, text_fits}

zeros_below : (base n : ℕ) (ds : List ℕ) → 0 < base → AllBelowBase base ds → AllBelowBase base (replicate n 0 ++ ds)
zeros_below base zero ds some h = h
zeros_below base (suc n) ds some h = (some, zeros_below base n ds some h)

zeros_sum : (base n : ℕ) (ds : List ℕ) → weighted_sum base (replicate n 0 ++ ds) ≡ weighted_sum base ds
zeros_sum base zero ds = refl
zeros_sum base (suc n) ds = omega (arith, zeros_sum base n ds)

zeros_shown : (n : ℕ) (ds : List ℕ) → map (digit_glyph false) (replicate n 0 ++ ds) ≡ replicate n 48 ++ map (digit_glyph false) ds
zeros_shown zero ds = refl
zeros_shown (suc n) ds = ap (λ (t : List ℕ). 48 ∷ t) (zeros_shown n ds)

one_leads : (ds : List ℕ) → HasNoLeadingZero (1 ∷ ds)
one_leads [] = tt
one_leads (d ∷ ds) = omega arith

-- the digits of p with zeros in front up to k
padded : ℕ → ℕ → List ℕ
padded k p = replicate (k - length (digits 10 p)) 0 ++ digits 10 p

fits : (k p : ℕ) → 0 < k → p < 10 ^ k → length (digits 10 p) ≤ k
unfolding number_text
fits k p some lt = omega (arith, text_fits 10 k p false (omega arith) some lt, length-map (digits 10 p) (digit_glyph false))

padded_long : (k p : ℕ) → 0 < k → p < 10 ^ k → length (padded k p) ≡ k
unfolding padded
padded_long k p some lt =
    let short : length (digits 10 p) ≤ k = fits k p some lt in
    let zeros : List ℕ = replicate (k - length (digits 10 p)) 0 in
    length-append zeros (digits 10 p) ∙ omega (arith, length-replicate {A = ℕ} (k - length (digits 10 p)) 0)

one_and_padded : (k p : ℕ) → 0 < k → p < 10 ^ k → 1 ∷ padded k p ≡ digits 10 (10 ^ k + p)
unfolding padded
one_and_padded k p some lt =
    let d : AreDigits 10 p (digits 10 p) = are_digits 10 p (omega arith) in
    only_digits 10 (10 ^ k + p) (1 ∷ padded k p) (omega arith) (record {
      below = (omega arith, zeros_below 10 (k - length (digits 10 p)) (digits 10 p) (omega arith) d.below);
      sum = ap (λ (n : ℕ). 1 * 10 ^ n + weighted_sum 10 (padded k p)) (padded_long k p some lt) ∙ omega (arith, zeros_sum 10 (k - length (digits 10 p)) (digits 10 p), d.sum);
      no_leading_zero = one_leads (padded k p);
    })

-- What is printed behind the first digit of 10 ^ k + p are the digits of p with zeros in front up to k.
pub behind_one : (k p : ℕ) → 0 < k → p < 10 ^ k → 10 ^ k + p < 2 ^ 128 → drop 1 (decimal (10 ^ k + p)) ≡ zero_filled k (decimal_text p)
unfolding padded zero_filled number_text
behind_one k p some lt small =
    ap (drop 1) (std_decimal (10 ^ k + p) small ∙ ap (map (digit_glyph false)) (sym (one_and_padded k p some lt)))
    ∙ zeros_shown (k - length (digits 10 p)) (digits 10 p)
    ∙ ap (λ (n : ℕ). replicate (k - n) 48 ++ map (digit_glyph false) (digits 10 p)) (sym (length-map (digits 10 p) (digit_glyph false)))

pub unit_some : (unit places : ℕ) → unit ≡ 10 ^ places → 0 < unit
unit_some unit places e =
    let two : 2 ≤ 10 = omega arith in
    let least : 2 ^ places ≤ 10 ^ places = pow-le-pow_left two places in
    omega (arith, least, pow_pos places, e)
