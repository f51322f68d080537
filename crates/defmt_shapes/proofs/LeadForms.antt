-- The parts of what a value's text begins with: what follows it, letters, names, variants and pairs of digits.
use Rattle.std.proofs.Common.{◌≡◌, ◌≢◌, ◌<◌, ◌≤◌, ◌+◌, ◌*◌, ◌%◌, ℕ, suc, zero, Bool, true, false, not, ◌&&◌, ◌||◌, ltb, leb, eqb, List, [], ◌∷◌, length, refl, sym, subst, ◌∙◌, arith, Option, Some, None, is_some, ◌⊎◌, inl, inr}
use Rattle.std.specs.Char.{digit_value, is_ascii_alphabetic, is_ascii_alphanumeric}
use Rattle.std.specs.List.{list_all}
use Rattle.std.specs.Str.Parse.{AllDigits}
use Rattle.std.proofs.lemmas.Bool.{and_parts, or_cases, ltb-true, leb-true, lt-ltb, ne_eqb, both_ways, false_from_ne_true, or_left, not-true}
use Rattle.std.proofs.lemmas.Str.Parse.{digit_from_value}
use Rattle.defmt_grammar.specs.Cut.{behind}
use Rattle.defmt_grammar.specs.Param.{HasLeadingZero, has_leading_zero}
use Rattle.defmt_grammar.proofs.Cuts.{behind_again, behind_found}
use Rattle.defmt_shapes.specs.declared.parts.Class.{Class}
use Rattle.defmt_shapes.specs.declared.parts.Class.TheVariants.{Decimal, Hexadecimal, Word, Numbers}
use Rattle.defmt_shapes.specs.Shape.{IsVariant, IsName, is_word, SpellsBytes}
use Rattle.defmt_shapes.specs.Runs.{in_class, is_variant}
use Rattle.defmt_shapes.proofs.NameLaws.{NameParts, name_parts}
use Rattle.defmt_shapes.proofs.RunLaws.{FailsThere}

-- what follows a value inside brackets or outside
abbrev pub StopsThere : List ℕ → Type 0
StopsThere [] = Unit {0}
StopsThere (c ∷ cs) = (c ≡ 32) ⊎ ((c ≡ 41) ⊎ (c ≡ 62))

-- a character that may follow no value
pub record IsInner (c : ℕ) : Type 0 where
  pub no_space : c ≢ 32
  pub no_round : c ≢ 41
  pub no_angle : c ≢ 62

pub stops_behind : (c : ℕ) (rest : List ℕ) → IsInner c → StopsThere rest → behind c rest ≡ None
unfolding behind
stops_behind c [] n h = refl
stops_behind c (d ∷ ds) n (inl e) = rw (ne_eqb d c (λ k. n.no_space (sym k ∙ e))) refl
stops_behind c (d ∷ ds) n (inr (inl e)) = rw (ne_eqb d c (λ k. n.no_round (sym k ∙ e))) refl
stops_behind c (d ∷ ds) n (inr (inr e)) = rw (ne_eqb d c (λ k. n.no_angle (sym k ∙ e))) refl

class_shut : (class : Class) → in_class class 41 ≡ false
class_shut Decimal = refl
class_shut Hexadecimal = refl
class_shut Word = refl
class_shut Numbers = refl

class_angle : (class : Class) → in_class class 62 ≡ false
class_angle Decimal = refl
class_angle Hexadecimal = refl
class_angle Word = refl
class_angle Numbers = refl

-- a class without the space
pub stops_class : (class : Class) (rest : List ℕ) → in_class class 32 ≡ false → StopsThere rest → FailsThere (in_class class) rest
stops_class class [] no_space h = tt
stops_class class (c ∷ cs) no_space (inl e) = subst (λ (x : ℕ). in_class class x ≡ false) (sym e) no_space
stops_class class (c ∷ cs) no_space (inr (inl e)) = subst (λ (x : ℕ). in_class class x ≡ false) (sym e) (class_shut class)
stops_class class (c ∷ cs) no_space (inr (inr e)) = subst (λ (x : ℕ). in_class class x ≡ false) (sym e) (class_angle class)

-- ---- letters

-- a letter is none of the characters below `A`, nor `[`
pub letter_range : (c : ℕ) → is_ascii_alphabetic c ≡ true → (65 ≤ c) × (c ≢ 91)
letter_range c h = elim (or_cases (leb 65 c && leb c 90) (leb 97 c && leb c 122) h) [
  | inl k ↦ let p = and_parts (leb 65 c) (leb c 90) k in let lo = leb-true 65 c p.0 in let hi = leb-true c 90 p.1 in (lo, λ e. omega arith)
  | inr k ↦ let p = and_parts (leb 97 c) (leb c 122) k in let lo = leb-true 97 c p.0 in (omega arith, λ e. omega arith)
]

pub letter_no_digit : (c : ℕ) → is_ascii_alphabetic c ≡ true → in_class Decimal c ≡ false
letter_no_digit c h = false_from_ne_true (in_class Decimal c) (λ t. let d = digit_from_value c (ltb-true (digit_value c) 10 t) in let r = letter_range c h in omega (arith, d.1, r.0))

letter_word_at : (a b d : Bool) → (b || d) ≡ true → ((a || b) || d) ≡ true
letter_word_at true b d h = refl
letter_word_at false b d h = h

pub letter_word : (c : ℕ) → is_ascii_alphabetic c ≡ true → is_word c ≡ true
letter_word c h = or_left (is_ascii_alphanumeric c) (eqb c 95) (letter_word_at (leb 48 c && leb c 57) (leb 65 c && leb c 90) (leb 97 c && leb c 122) h)

-- ---- names and variants

words_of : (name : List ℕ) → NameParts name → list_all (in_class Word) name ≡ true
words_of name n = rw n.name_is (rw (letter_word n.first n.letter, n.words) refl)

pub name_words : (name : List ℕ) → IsName name → list_all (in_class Word) name ≡ true
name_words name h = words_of name (name_parts name h)

zero_at : (digits : List ℕ) (o : Option (List ℕ)) → behind 48 digits ≡ o → (HasLeadingZero digits → ⊥) → (ltb 1 (length digits) && is_some o) ≡ false
zero_at digits None e h = grind arith
zero_at digits (Some []) e h = rw (behind_found 48 digits [] e) refl
zero_at digits (Some (d ∷ more)) e h = absurd (h (d, more, behind_found 48 digits (d ∷ more) e))

pub no_zero_again : (digits : List ℕ) → (HasLeadingZero digits → ⊥) → has_leading_zero digits ≡ false
no_zero_again digits h = zero_at digits (behind 48 digits) refl h

pub no_zero_found : (digits : List ℕ) → has_leading_zero digits ≡ false → HasLeadingZero digits → ⊥
no_zero_found digits h (d, more, e) =
    let k : has_leading_zero digits ≡ true = rw e (rw (behind_again 48 (d ∷ more), lt-ltb 1 (suc (suc (length more))) (omega arith)) refl) in
    both_ways (has_leading_zero digits) h k

pub variant_again : (digits : List ℕ) (v : ℕ) → IsVariant digits v → is_variant digits ≡ true
unfolding is_variant
variant_again digits v h = rw (lt-ltb 0 (length digits) h.number.some, no_zero_again digits h.no_leading_zero) refl

pub variant_found : (digits : List ℕ) → AllDigits 10 digits → is_variant digits ≡ true → (0 < length digits) × (HasLeadingZero digits → ⊥)
unfolding is_variant
variant_found digits all h =
    let p = and_parts (ltb 0 (length digits)) (not (has_leading_zero digits)) h in
    (ltb-true 0 (length digits) p.0, no_zero_found digits (not-true (has_leading_zero digits) p.1))

-- ---- pairs of digits

pub bytes_pass : (digits bs : List ℕ) → SpellsBytes digits bs → (list_all (in_class Hexadecimal) digits ≡ true) × (length digits ≡ 2 * length bs)
bytes_pass digits [] h = rw h (refl, refl)
bytes_pass digits (b ∷ bs) (high, low, rest, h, l, e, more, text) =
    let k = bytes_pass rest bs more in
    rw text (rw (lt-ltb (digit_value high) 16 h, lt-ltb (digit_value low) 16 l, k.0) refl, omega (arith, k.1))

pub pairs_again : (n k : ℕ) → n ≡ 2 * k → n % 2 ≡ 0
pairs_again n k e = omega arith

pub pairs_found : (k : ℕ) (digits : List ℕ) → length digits ≡ 2 * k → AllDigits 16 digits → (bs : List ℕ) × SpellsBytes digits bs
pairs_found zero [] e h = ([], refl)
pairs_found zero (d ∷ ds) e h = absurd (omega arith)
pairs_found (suc k) [] e h = absurd (omega arith)
pairs_found (suc k) (d ∷ []) e h = absurd (omega arith)
pairs_found (suc k) (high ∷ low ∷ rest) e h =
    let r = pairs_found k rest (omega arith) h.1.1 in
    ((16 * digit_value high + digit_value low) ∷ r.0, (high, low, rest, h.0, h.1.0, refl, r.1, refl))
