-- The decimal digits that std prints.
use Rattle.std.proofs.Common.{◌≡◌, ◌<◌, ◌≤◌, ◌*◌, ◌/◌, ◌%◌, ◌^◌, ℕ, zero, suc, Bool, true, false, eqb, List, [], ◌∷◌, ◌++◌, map, append_assoc, refl, sym, ap, subst, ◌∙◌, arith}
use Rattle.std.proofs.lemmas.Bool.{eqb-true}
use Rattle.std.proofs.lemmas.List.{append-nil, map_push}
use Rattle.std.proofs.lemmas.Int.Digits.{digits_of_step}
use Rattle.std.proofs.Math.Nat.{div-lt_iff_lt-mul, pow-suc, pow-zero}
use Rattle.std.specs.Fmt.{decimal, digit_glyph, digits_onto, digits as std_digits}
use Rattle.std.specs.Int.Digits.{digits_of}
use Rattle.std.specs.Prelude.{if◌then◌else◌}
use Rattle.defmt_hints.specs.Digits.{number_text}
use Rattle.defmt_hints.proofs.DigitsLaws.{above_zero, number_text_zero, number_text_some}

digit_before : (base rest : ℕ) (upper : Bool) (w : List ℕ) → 2 ≤ base → 0 < rest → map (digit_glyph upper) (digits_of base rest) ++ w ≡ map (digit_glyph upper) (digits_of base (rest / base)) ++ digit_glyph upper (rest % base) ∷ w
digit_before base rest upper w two some =
    ap (λ (t : List ℕ). map (digit_glyph upper) t ++ w) (digits_of_step base rest two some)
    ∙ ap (λ (t : List ℕ). t ++ w) (map_push (digit_glyph upper) (digits_of base (rest / base)) (rest % base))
    ∙ append_assoc (map (digit_glyph upper) (digits_of base (rest / base))) (digit_glyph upper (rest % base) ∷ []) w

-- one digit in front of those that are there, and all before it in the same way
turn : (k base n : ℕ) (upper : Bool) (acc : List ℕ) (b : Bool) → eqb (n / base) 0 ≡ b → 2 ≤ base → 0 < n
    → (0 < n / base → (behind : List ℕ) → digits_onto k base upper (n / base) behind ≡ map (digit_glyph upper) (digits_of base (n / base)) ++ behind)
    → (if eqb (n / base) 0 then digit_glyph upper (n % base) ∷ acc else digits_onto k base upper (n / base) (digit_glyph upper (n % base) ∷ acc)) ≡ map (digit_glyph upper) (digits_of base n) ++ acc
turn k base n upper acc true e two some higher =
    rw e (sym (digit_before base n upper acc two some ∙ ap (λ (q : ℕ). map (digit_glyph upper) (digits_of base q) ++ digit_glyph upper (n % base) ∷ acc) (eqb-true (n / base) 0 e)))
turn k base n upper acc false e two some higher =
    rw e (higher (above_zero (n / base) e) (digit_glyph upper (n % base) ∷ acc) ∙ sym (digit_before base n upper acc two some))

below : (k base n : ℕ) → 2 ≤ base → n < base ^ suc k → n / base < base ^ k
below k base n two lt =
    let product : n < base ^ k * base = subst (λ (m : ℕ). n < m) (pow-suc base k) lt in
    (div-lt_iff_lt-mul {k = base} {x = n} {y = base ^ k} (omega arith)).1 product

onto : (k base n : ℕ) (upper : Bool) (acc : List ℕ) → 2 ≤ base → 0 < n → n < base ^ k → digits_onto k base upper n acc ≡ map (digit_glyph upper) (digits_of base n) ++ acc
onto zero base n upper acc two some lt = absurd (omega (arith, pow-zero base))
onto (suc k) base n upper acc two some lt =
    turn k base n upper acc (eqb (n / base) 0) refl two some (λ more behind. onto k base (n / base) upper behind two more (below k base n two lt))

std_some : (n : ℕ) → 0 < n → n < 2 ^ 128 → decimal n ≡ number_text 10 false n
unfolding std_digits
std_some n some lt = onto 64 10 n false [] (omega arith) some (omega arith) ∙ append-nil (map (digit_glyph false) (digits_of 10 n)) ∙ sym (number_text_some 10 n false some)

std_zero : decimal 0 ≡ 48 ∷ []
unfolding std_digits
std_zero = refl

std_by : (n : ℕ) (b : Bool) → eqb n 0 ≡ b → n < 2 ^ 128 → decimal n ≡ number_text 10 false n
std_by n true e lt = rw (eqb-true n 0 e) (std_zero ∙ sym (number_text_zero 10 false))
std_by n false e lt = std_some n (above_zero n e) lt

-- the text that std prints for a number is that of its digits
pub std_decimal : (n : ℕ) → n < 2 ^ 128 → decimal n ≡ number_text 10 false n
std_decimal n lt = std_by n (eqb n 0) refl lt
