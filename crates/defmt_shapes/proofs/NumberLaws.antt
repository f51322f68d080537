-- Digits as numbers.
use Rattle.std.proofs.Common.{◌≡◌, ◌≢◌, ◌<◌, ◌≤◌, ◌^◌, ℕ, Bool, true, false, cond, List, [], ◌∷◌, get_or, Option, Some, None, Result, Ok, Err, refl, sym, subst, arith, OkIff, SomeIff}
use Rattle.std.specs.Char.{digit_value, IsScalar}
use Rattle.std.specs.Str.Parse.{AllDigits, IsNumeral, digits_value, ParsesUnsigned}
use Rattle.std.proofs.lemmas.Bool.{false_from_ne_true, le-ltb, and_right}
use Rattle.std.proofs.lemmas.Str.Parse.{without_leading_plus_none}
use Rattle.defmt_shapes.specs.Escapes.{scalar_of}
use lib.Utf8.{scalar}

pub no_plus : (radix : ℕ) (bs : List ℕ) → radix ≤ 36 → AllDigits radix bs → get_or bs 0 0 ≢ 43
no_plus radix [] few h e = absurd (omega arith)
no_plus radix (d ∷ ds) few h e = let k : digit_value 43 < radix = subst (λ (c : ℕ). digit_value c < radix) e h.0 in omega arith

narrow : {E : Type 0} (r : Result ℕ E) (P Q : Type 0) (v : ℕ) → P → OkIff r (P × Q) v → OkIff r Q v
narrow (Ok x) P Q v p h = (h.0.1, h.1)
narrow (Err e) P Q v p h = λ q. h (p, q)

-- what `from_str_radix` gives for digits alone
pub parse_numeral : {E : Type 0} (k radix : ℕ) (bs : List ℕ) (r : Result ℕ E) → radix ≤ 36 → IsNumeral radix bs → ParsesUnsigned k radix bs r → OkIff r (digits_value radix bs < 2 ^ k) (digits_value radix bs)
parse_numeral k radix bs r few n h =
    narrow r (IsNumeral radix bs) (digits_value radix bs < 2 ^ k) (digits_value radix bs) n
    (rw (without_leading_plus_none bs (no_plus radix bs few n.1)) at h)

-- ---- characters by their number

big_scalar : (n : ℕ) → 2 ^ 32 ≤ n → scalar n ≡ false
big_scalar n h = rw (le-ltb n 55296 (omega arith), le-ltb n 1114112 (omega arith)) (and_right _ false refl)

pub scalar_at : (n code : ℕ) (r : Option ℕ) → SomeIff r (IsScalar code) code → code ≡ n → r ≡ scalar_of n
unfolding scalar_of
scalar_at n code (Some c) h e = rw (subst (λ (k : ℕ). scalar k ≡ true) e h.0, h.1, e) refl
scalar_at n code None h e = rw (false_from_ne_true (scalar n) (λ t. h (subst (λ (k : ℕ). scalar k ≡ true) (sym e) t))) refl

pub scalar_far : (n : ℕ) → (n < 2 ^ 32 → ⊥) → None ≡ scalar_of n
unfolding scalar_of
scalar_far n h = let big : 2 ^ 32 ≤ n = omega (arith, h) in rw (big_scalar n big) refl

scalar_test : (b : Bool) (n c : ℕ) → scalar n ≡ b → cond b (Some n) None ≡ Some c → (n ≡ c) × IsScalar n
scalar_test true n c e h = (let k : n ≡ c = cc in k, e)
scalar_test false n c e h = absurd cc

pub scalar_found : (n c : ℕ) → scalar_of n ≡ Some c → (n ≡ c) × IsScalar n
unfolding scalar_of
scalar_found n c h = scalar_test (scalar n) n c refl h

pub scalar_again : (n : ℕ) → IsScalar n → scalar_of n ≡ Some n
unfolding scalar_of
scalar_again n h = rw h refl
