-- The digits behind a decimal point.
use Rattle.std.proofs.Common.{◌≡◌, ◌<◌, ◌≤◌, ◌+◌, ◌-◌, ◌%◌, ◌^◌, ℕ, false, List, ◌∷◌, ◌++◌, length, take, drop, set, length-append, length-drop, length-set, codes, sym, ap, subst, ◌∙◌, arith}
use Rattle.std.proofs.lemmas.Fmt.{decimal_nonempty}
use Rattle.std.proofs.lemmas.List.{drop-set, take-set, drop-drop, drop-append-le, length-replicate}
use Rattle.std.proofs.lemmas.Nat.{mod_below}
use Rattle.std.specs.Fmt.{decimal}
use Rattle.std.specs.Prelude.{replicate}
use Rattle.defmt_hints.proofs.DigitsLaws.{text_fits}
use Rattle.defmt_hints.proofs.PartsLaws.{behind_one, unit_some}
use Rattle.defmt_hints.specs.Digits.{zero_filled}
use Rattle.defmt_hints.specs.Printed.{decimal_text}
use Rattle.defmt_hints.proofs.Places.{written_here}
use Rattle.defmt_hints.specs.Written.{Written}

filled_long : (k : ℕ) (text : List ℕ) → length text ≤ k → length (zero_filled k text) ≡ k
unfolding zero_filled
filled_long k text le = omega (arith, le, length-append (replicate (k - length text) 48) text, length-replicate {A = ℕ} (k - length text) 48)

-- a point and the digits of the parts
pub parts_long : (k p : ℕ) → 0 < k → p < 10 ^ k → length (codes "." ++ zero_filled k (decimal_text p)) ≡ k + 1
parts_long k p some lt = omega (arith, filled_long k (decimal_text p) (text_fits 10 k p false (omega arith) some lt), length-append (codes ".") (zero_filled k (decimal_text p)))

-- the sum has one digit more than the parts
pub sum_long : (k p : ℕ) → 0 < k → p < 10 ^ k → 10 ^ k + p < 2 ^ 64 → length (decimal (10 ^ k + p)) ≡ k + 1
sum_long k p some lt small =
    let behind : length (drop 1 (decimal (10 ^ k + p))) ≡ k = ap length (behind_one k p some lt (omega (arith, small))) ∙ filled_long k (decimal_text p) (text_fits 10 k p false (omega arith) some lt) in
    omega (arith, behind, length-drop 1 (decimal (10 ^ k + p)), decimal_nonempty (10 ^ k + p) (omega (arith, small)))

pub parts_few : (unit places n : ℕ) → unit ≡ 10 ^ places → n % unit < 10 ^ places
parts_few unit places n e = subst (λ (u : ℕ). n % unit < u) e (mod_below n unit (unit_some unit places e))

pub sum_fits : (unit places n : ℕ) → 0 < places → unit ≡ 10 ^ places → unit ≤ 1000000 → length (decimal (unit + n % unit)) ≡ places + 1
sum_fits unit places n some e small =
    let lt : n % unit < 10 ^ places = parts_few unit places n e in
    ap (λ (u : ℕ). length (decimal (u + n % unit))) e ∙ sum_long places (n % unit) some lt (omega (arith, lt, e, small))

-- the point over the first digit of the sum
pub point_written : (unit places n at start end : ℕ) (old mid new : List ℕ) → 0 < places → unit ≡ 10 ^ places → unit ≤ 1000000 → at ≤ length old → end ≤ length old → at + (places + 1) ≡ end → length mid ≡ length old
    → start + length (decimal (unit + n % unit)) ≡ end → drop start mid ≡ decimal (unit + n % unit) ++ drop end old → take start mid ≡ take start old → new ≡ set mid at 46 → Written old at new end (codes "." ++ zero_filled places (decimal_text (n % unit)))
point_written unit places n at start end old mid new some e small le most ends same s d t is =
    let p : ℕ = n % unit in
    let lt : p < 10 ^ places = parts_few unit places n e in
    let fits : 10 ^ places + p < 2 ^ 64 = omega (arith, lt, e, small) in
    let digits : List ℕ = decimal (10 ^ places + p) in
    let zs : List ℕ = zero_filled places (decimal_text p) in
    let long : length digits ≡ places + 1 = sum_long places p some lt fits in
    let behind : drop 1 digits ≡ zs = behind_one places p some lt (omega (arith, fits)) in
    let here : start ≡ at = omega (arith, s, sum_fits unit places n some e small, ends) in
    let d_is : drop at mid ≡ digits ++ drop end old = ap (λ (m : ℕ). drop m mid) (sym here) ∙ d ∙ ap (λ (u : ℕ). decimal (u + p) ++ drop end old) e in
    let t_is : take at mid ≡ take at old = ap (λ (m : ℕ). take m mid) (sym here) ∙ t ∙ ap (λ (m : ℕ). take m old) here in
    let inside : at < length mid = omega (arith, same, ends, most) in
    let one : drop 1 (drop at mid) ≡ drop (at + 1) mid = drop-drop 1 at mid in
    let tail : drop (at + 1) mid ≡ zs ++ drop end old = sym one ∙ ap (drop 1) d_is ∙ drop-append-le 1 digits (drop end old) (omega (arith, long)) ∙ ap (λ (x : List ℕ). x ++ drop end old) behind in
    let there : drop at (set mid at 46) ≡ 46 ∷ (zs ++ drop end old) = drop-set mid at 46 inside ∙ ap (λ (x : List ℕ). 46 ∷ x) tail in
    let size : at + length (46 ∷ zs) ≡ end = omega (arith, ends, filled_long places (decimal_text p) (text_fits 10 places p false (omega arith) some lt)) in
    written_here old new (46 ∷ zs) at at end le most (ap length is ∙ length-set mid at 46 ∙ same) size size (ap (drop at) is ∙ there) (ap (take at) is ∙ take-set mid at 46 ∙ t_is)
