-- Bytes whose sum is 0 are zeros.
use Rattle.std.proofs.Common.{◌≡◌, ◌<◌, ◌≤◌, ◌+◌, ◌&&◌, ◌==◌, ℕ, Bool, true, List, [], ◌∷◌, inl, inr, length, nat_le, refl, sym, ap, ◌∙◌, sum, slice_index, arith}
use Rattle.std.proofs.lemmas.Bool.{and_parts, cases_lt, le-leb, leb-true, lt-leb}
use Rattle.std.proofs.lemmas.List.Folds.{sum_by-zero}
use Rattle.std.specs.List.{list_all}
use Rattle.defmt_encode.specs.Read.{all_zero, is_padding}

each_zero : (bytes : List ℕ) → list_all (λ (b : ℕ). b == 0) bytes ≡ all_zero bytes
each_zero [] = refl
each_zero (b ∷ bytes) = ap (λ (others : Bool). (b == 0) && others) (each_zero bytes)

zeros_by_sum : (bytes : List ℕ) → (sum bytes == 0) ≡ all_zero bytes
zeros_by_sum bytes = sum_by-zero (λ (b : ℕ). b) bytes ∙ each_zero bytes

pub padding_by_sum : (bytes : List ℕ) (s : ℕ) → (length bytes ≤ 6 → s ≡ sum bytes) → (6 < length bytes → s ≡ 1) → (s == 0) ≡ is_padding bytes
padding_by_sum bytes s few many = elim (cases_lt 6 (length bytes)) [
  | inl long ↦ ap (λ (n : ℕ). n == 0) (many long) ∙ sym (ap (λ (b : Bool). b && all_zero bytes) (lt-leb (length bytes) 6 long))
  | inr short ↦ ap (λ (n : ℕ). n == 0) (few short) ∙ zeros_by_sum bytes ∙ sym (ap (λ (b : Bool). b && all_zero bytes) (le-leb (length bytes) 6 short))
]

pub padding_is : (bytes : List ℕ) → is_padding bytes ≡ true → (length bytes ≤ 6) × (all_zero bytes ≡ true)
padding_is bytes e =
    let p = and_parts (nat_le (length bytes) 6) (all_zero bytes) e in
    (leb-true (length bytes) 6 p.0, p.1)

-- six bytes, one by one
pub six_sum : (xs : List ℕ) (a b c d e f : ℕ) → 6 ≤ length xs → length xs ≤ 6 → a ≡ slice_index xs 0 → b ≡ slice_index xs 1 → c ≡ slice_index xs 2 → d ≡ slice_index xs 3 → e ≡ slice_index xs 4 → f ≡ slice_index xs 5 → a + b + c + d + e + f ≡ sum xs
six_sum [] a b c d e f low high p q r s t u = absurd (omega (arith, low))
six_sum (x ∷ []) a b c d e f low high p q r s t u = absurd (omega (arith, low))
six_sum (x ∷ y ∷ []) a b c d e f low high p q r s t u = absurd (omega (arith, low))
six_sum (x ∷ y ∷ z ∷ []) a b c d e f low high p q r s t u = absurd (omega (arith, low))
six_sum (x ∷ y ∷ z ∷ v ∷ []) a b c d e f low high p q r s t u = absurd (omega (arith, low))
six_sum (x ∷ y ∷ z ∷ v ∷ w ∷ []) a b c d e f low high p q r s t u = absurd (omega (arith, low))
six_sum (x ∷ y ∷ z ∷ v ∷ w ∷ m ∷ []) a b c d e f low high p q r s t u = omega (arith, p, q, r, s, t, u)
six_sum (x ∷ y ∷ z ∷ v ∷ w ∷ m ∷ n ∷ xs) a b c d e f low high p q r s t u = absurd (omega (arith, high))
