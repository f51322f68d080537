-- What `parse` tells of digits.
use Rattle.std.proofs.Common.{◌≡◌, ◌≢◌, ℕ, ◌<◌, ◌≤◌, ◌^◌, ◌&&◌, Bool, true, false, ltb, List, [], ◌∷◌, length, refl, sym, subst, ap, arith, get_or, lit<, lit≤, OkIff}
use Rattle.std.specs.Prelude.{Ok, Err, Some, None, Result, nat_lt}
use Rattle.std.specs.Char.{digit_value}
use Rattle.std.specs.Str.{all_ascii_digits}
use Rattle.std.specs.Str.Parse.{AllDigits, IsNumeral, ParsesUnsigned, digits_value}
use Rattle.std.proofs.Math.Nat.{pow-le-pow_right}
use Rattle.std.proofs.lemmas.Bool.{and_parts, false_from_ne_true, lt-ltb, ltb-true}
use Rattle.std.proofs.lemmas.Int.Digits.{digits_value-lt}
use Rattle.std.proofs.lemmas.Str.Parse.{IsNumeralModel, numerals_by_value, tells_all_ascii_digits, parse_plain, without_leading_plus_none}
use Rattle.std.proofs.lemmas.Bool.Decides.{nat_tests}
use Rattle.defmt_words.specs.Numbers.{all_hexadecimal, hexadecimal_digits, numeral_in}

own : IsNumeralModel (λ ds. all_ascii_digits ds ≡ true) (digits_value 10)
own = numerals_by_value _ tells_all_ascii_digits

-- three tests, as `numeral_in` joins them
all_pass : (a b c : Bool) → a ≡ true → b ≡ true → c ≡ true → ((a && b) && c) ≡ true
all_pass a b c p q r = rw (p, q, r) refl

some_fails : (a b c : Bool) → (a ≡ true → b ≡ true → c ≡ true → ⊥) → ((a && b) && c) ≡ false
some_fails true true true h = absurd (h refl refl refl)
some_fails true true false h = refl
some_fails true false c h = refl
some_fails false b c h = refl

pub numeral_ok : (E : Type 0) (bs : List ℕ) (n : ℕ) → get_or bs 0 0 ≢ 43 → ParsesUnsigned {E = E} 32 10 bs (Ok n) → Some n ≡ numeral_in bs
numeral_ok E bs n plain h =
    let p = parse_plain own {E = E} 32 bs (Ok n) h plain in
    let same : digits_value 10 bs ≡ n = sym p.1 in
    let t = all_pass (nat_lt 0 (length bs)) (all_ascii_digits bs) (nat_lt (digits_value 10 bs) 4294967296)
    (grind (arith, nat_tests, p.0.1)) p.0.0 (grind (arith, nat_tests, p.0.2)) in
    rw (t, same) refl

pub numeral_err : (E : Type 0) (bs : List ℕ) (e : E) → get_or bs 0 0 ≢ 43 → ParsesUnsigned {E = E} 32 10 bs (Err e) → None ≡ numeral_in bs
numeral_err E bs e plain h =
    let p = parse_plain own {E = E} 32 bs (Err e) h plain in
    let t = some_fails (nat_lt 0 (length bs)) (all_ascii_digits bs) (nat_lt (digits_value 10 bs) 4294967296)
    (λ some digits small.
    let some' : 0 < length bs = grind (arith, nat_tests, some) in
    let small' : digits_value 10 bs < 2 ^ 32 = grind (arith, nat_tests, small) in
    p (digits, some', small')) in
    rw t refl

-- ---- hexadecimal

digits_pass : (ds : List ℕ) → AllDigits 16 ds → all_hexadecimal ds ≡ true
digits_pass [] h = refl
digits_pass (d ∷ ds) h = rw (lt-ltb (digit_value d) 16 h.0, digits_pass ds h.1) refl

pass_digits : (ds : List ℕ) → all_hexadecimal ds ≡ true → AllDigits 16 ds
pass_digits [] h = tt
pass_digits (d ∷ ds) h = let k = and_parts (ltb (digit_value d) 16) (all_hexadecimal ds) h in (ltb-true (digit_value d) 16 k.0, pass_digits ds k.1)

-- a text without a sign
parses : {E : Type 0} (ds : List ℕ) (r : Result ℕ E) → get_or ds 0 0 ≢ 43 → ParsesUnsigned 32 16 ds r → OkIff r (IsNumeral 16 ds × (digits_value 16 ds < 2 ^ 32)) (digits_value 16 ds)
parses ds r plain h =
    subst (λ (l : List ℕ). OkIff r (IsNumeral 16 l × (digits_value 16 l < 2 ^ 32)) (digits_value 16 l)) (without_leading_plus_none ds plain) h

small : (ds : List ℕ) → AllDigits 16 ds → length ds ≤ 8 → digits_value 16 ds < 2 ^ 32
small ds digits short =
    let most : 16 ^ length ds ≤ 16 ^ 8 = pow-le-pow_right (lit< tt) short in
    let fits : 16 ^ 8 ≤ 2 ^ 32 = lit≤ tt in
    omega (arith, digits_value-lt 16 ds digits, most, fits)

pub hexadecimal_ok : (E : Type 0) (ds : List ℕ) (n : ℕ) → get_or ds 0 0 ≢ 43 → ParsesUnsigned {E = E} 32 16 ds (Ok n) → Some n ≡ hexadecimal_digits ds
hexadecimal_ok E ds n plain h =
    let p = parses {E = E} ds (Ok n) plain h in
    rw (lt-ltb 0 (length ds) p.0.0.0, digits_pass ds p.0.0.1) (ap Some p.1)

pub hexadecimal_err : (E : Type 0) (ds : List ℕ) (e : E) → get_or ds 0 0 ≢ 43 → length ds ≤ 8 → ParsesUnsigned {E = E} 32 16 ds (Err e) → None ≡ hexadecimal_digits ds
hexadecimal_err E ds e plain short h =
    let p = parses {E = E} ds (Err e) plain h in
    let fails : (nat_lt 0 (length ds) && all_hexadecimal ds) ≡ false = false_from_ne_true (nat_lt 0 (length ds) && all_hexadecimal ds) (λ both.
    let k = and_parts (nat_lt 0 (length ds)) (all_hexadecimal ds) both in
    let digits = pass_digits ds k.1 in
    p ((ltb-true 0 (length ds) k.0, digits), small ds digits short)) in
    rw fails refl
