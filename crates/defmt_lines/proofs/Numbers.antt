-- Numbers of digits.
use Rattle.std.proofs.Common.{◌≡◌, [], ◌∷◌, get_or, ◌<◌, ◌≤◌, ◌^◌, ◌-◌, ◌&&◌, inl, inr, ℕ, true, ltb, leb, min, List, length, Result, Ok, Err, refl, arith}
use Rattle.std.specs.Result.{OkIff, result_unwrap_or}
use Rattle.std.specs.Char.{digit_value}
use Rattle.std.specs.Str.{all_ascii_digits}
use Rattle.std.specs.Str.Parse.{digits_value, ParsesUnsigned}
use Rattle.std.proofs.lemmas.Bool.{cases_lt, le-ltb, leb-true, lt-ltb, ltb-true, and_parts}
use Rattle.std.proofs.lemmas.Str.Parse.{parse_digits}
use Rattle.defmt_grammar.proofs.Cuts.{own}
use Rattle.defmt_lines.specs.Number.{is_digits}

-- one digit at least, and nothing else
pub digits_parts : (text : List ℕ) → is_digits text ≡ true → (0 < length text) × (all_ascii_digits text ≡ true)
unfolding is_digits
digits_parts text e = let p = and_parts (ltb 0 (length text)) (all_ascii_digits text) e in (ltb-true 0 (length text) p.0, p.1)

narrow : {E : Type 0} (r : Result ℕ E) (v m : ℕ) → 0 < m → OkIff r ((0 < m) × (v < 2 ^ 64)) v → OkIff r (v < 2 ^ 64) v
narrow (Ok x) v m some h = (h.0.1, h.1)
narrow (Err x) v m some h = λ lt. h (some, lt)

parsed : {E : Type 0} (v : ℕ) (r : Result ℕ E) (n : ℕ) → OkIff r (v < 2 ^ 64) v → n ≡ result_unwrap_or r (2 ^ 64 - 1) → n ≡ min v (2 ^ 64 - 1)
parsed v (Ok x) n h e = omega (arith, h.0, h.1)
parsed v (Err x) n h e = let big : 2 ^ 64 ≤ v = elim (cases_lt v (2 ^ 64)) [ inl lt ↦ absurd (h lt) | inr le ↦ le ] in omega arith

pub value_parse : {E : Type 0} (text : List ℕ) (r : Result ℕ E) (n : ℕ) → ParsesUnsigned 64 10 text r → is_digits text ≡ true → n ≡ result_unwrap_or r (2 ^ 64 - 1)
    → n ≡ min (digits_value 10 text) (2 ^ 64 - 1)
value_parse text r n h digits e =
    let p = digits_parts text digits in
    parsed (digits_value 10 text) r n (narrow r (digits_value 10 text) (length text) p.0 (parse_digits own 64 text r h p.1)) e

one_value : (d : ℕ) → 48 ≤ d → d < 58 → digits_value 10 (d ∷ []) ≡ d - 48
one_value d low high = let e : digit_value d ≡ d - 48 = rw (le-ltb d 48 low, lt-ltb d 58 high) refl in omega (arith, e)

-- what one digit stands for
pub record IsOneDigit (text : List ℕ) : Type 0 where
  pub digit : 48 ≤ get_or text 0 0
  pub value : get_or text 0 0 - 48 ≡ min (digits_value 10 text) (2 ^ 64 - 1)

pub one_digit : (text : List ℕ) → is_digits text ≡ true → length text ≡ 1 → IsOneDigit text
one_digit [] digits one = absurd (omega arith)
one_digit (d ∷ e ∷ text) digits one = absurd (omega arith)
one_digit (d ∷ []) digits one =
    let all = digits_parts (d ∷ []) digits in
    let is = and_parts (leb 48 d && leb d 57) true all.1 in
    let range = and_parts (leb 48 d) (leb d 57) is.0 in
    let low : 48 ≤ d = leb-true 48 d range.0 in
    let high : d ≤ 57 = leb-true d 57 range.1 in
    record { digit = low; value = omega (arith, one_value d low (omega arith)) }
