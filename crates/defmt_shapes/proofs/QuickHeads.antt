-- What stands in front of a text is a value.
use Rattle.std.proofs.Common.{◌≡◌, ◌<◌, ◌≤◌, ◌+◌, ◌-◌, ◌*◌, ℕ, List, [], ◌∷◌, ◌++◌, length, get_or, take, drop, refl, sym, ap, subst, ◌∙◌, arith, append_assoc}
use Rattle.std.specs.Char.{digit_value}
use Rattle.std.specs.Str.{IsUtf8, IsCharBoundary}
use Rattle.std.proofs.lemmas.Str.{IsCharBoundary-after_ascii}
use Rattle.std.specs.Str.Parse.{AllDigits, digits_value}
use Rattle.std.proofs.lemmas.Int.Digits.{digits_more, digits_value_more, digits_value-lt}
use Rattle.std.proofs.lemmas.Bool.{le-ltb, lt-ltb}
use Rattle.std.proofs.lemmas.List.{get_or-take, length-take, take-append-drop}
use native.Mathlib.Nat.{pow-le-pow_right}
use Rattle.defmt_grammar.specs.declared.language.Language.{Language}
use Rattle.defmt_shapes.specs.Shape.{EndsThere, HeadShape, SpellsBytes, SpellsQuoted, decimal, negative, quoted, bytes}

-- up to this place stand digits alone, which stand for the number
pub record DigitsTo (text : List ℕ) (i number : ℕ) : Type 0 where
  pub place : IsCharBoundary text i
  pub digits : AllDigits 10 (take i text)
  pub value : digits_value 10 (take i text) ≡ number

pub digit_is : (c : ℕ) → 48 ≤ c → c ≤ 57 → digit_value c ≡ c - 48
digit_is c low high = rw (le-ltb c 48 low, lt-ltb c 58 (omega arith)) refl

pub two_parts : (text front back : List ℕ) (at : ℕ) → front ≡ take at text → back ≡ drop at text → text ≡ front ++ back
two_parts text front back at f b = sym (take-append-drop at text) ∙ ap (λ (t : List ℕ). t ++ drop at text) (sym f) ∙ ap (λ (t : List ℕ). front ++ t) (sym b)

pub digit_more : (text items : List ℕ) (i number digit : ℕ) → IsUtf8 text → items ≡ text → i < length items → 48 ≤ get_or items i 0 → get_or items i 0 ≤ 57 → digit ≡ get_or items i 0 - 48
    → DigitsTo text i number → DigitsTo text (i + 1) (number * 10 + digit)
digit_more text items i number digit u same lt low high is h =
    let within : i < length text = subst (λ (t : List ℕ). i < length t) same lt in
    let at : get_or items i 0 ≡ get_or text i 0 = ap (λ (t : List ℕ). get_or t i 0) same in
    let value : digit_value (get_or text i 0) ≡ digit = ap digit_value (sym at) ∙ digit_is (get_or items i 0) low high ∙ sym is in
    let small : digit_value (get_or text i 0) < 10 = omega (arith, value, is, high) in
    let ascii : get_or text i 0 < 128 = omega (arith, at, high) in
    record {
      place = IsCharBoundary-after_ascii text i u within ascii;
      digits = digits_more 10 text i within h.digits small;
      value = digits_value_more 10 text i within ∙ ap (λ (n : ℕ). digits_value 10 (take i text) * 10 + n) value ∙ ap (λ (n : ℕ). n * 10 + digit) h.value;
    }

-- so many digits stand for a number below this one
pub digits_few : (text : List ℕ) (i number : ℕ) → i ≤ 18 → DigitsTo text i number → number < 1000000000000000000
digits_few text i number le h =
    let short : length (take i text) ≤ 18 = omega (arith, length-take i text) in
    omega (arith, h.value, digits_value-lt 10 (take i text) h.digits, pow-le-pow_right {n = 10} (omega arith) short)

-- the same of a digit that is read from a front of the text
pub digit_of_front : (text front : List ℕ) (k i number digit : ℕ) → IsUtf8 text → front ≡ take k text → i < k → i < length text → 48 ≤ get_or front i 0 → get_or front i 0 ≤ 57 → digit ≡ get_or front i 0 - 48
    → DigitsTo text i number → DigitsTo text (i + 1) (number * 10 + digit)
digit_of_front text front k i number digit u is lt within low high value h =
    let at : get_or front i 0 ≡ get_or text i 0 = ap (λ (t : List ℕ). get_or t i 0) is ∙ get_or-take k text i 0 lt in
    digit_more text text i number digit u refl within (omega (arith, at, low)) (omega (arith, at, high)) (value ∙ ap (λ (n : ℕ). n - 48) at) h

pub decimal_there : (lang : Language) (text : List ℕ) (at number : ℕ) (front rest : List ℕ) → AllDigits 10 (take at text) → digits_value 10 (take at text) ≡ number → front ≡ take at text → rest ≡ drop at text → 0 < length front → EndsThere rest → HeadShape lang text (decimal number) rest
decimal_there lang text at number front rest all value f b some ends = record {
  front = front;
  spelled = record { some = some; all = subst (AllDigits 10) (sym f) all; value = ap (digits_value 10) f ∙ value };
  ends = ends;
  text_is = two_parts text front rest at f b;
}

pub negative_there : (lang : Language) (text digits rest : List ℕ) (n : ℕ) → text ≡ 45 ∷ digits → HeadShape lang digits (decimal n) rest → HeadShape lang text (negative n) rest
negative_there lang text digits rest n e h = record {
  front = 45 ∷ h.front;
  spelled = (h.front, h.spelled, refl);
  ends = h.ends;
  text_is = e ∙ ap (λ (t : List ℕ). 45 ∷ t) h.text_is;
}

pub quoted_there : (lang : Language) (text tail inside more rest : List ℕ) → text ≡ 34 ∷ tail → tail ≡ inside ++ more → more ≡ 34 ∷ rest → EndsThere rest → SpellsQuoted inside inside → HeadShape lang text (quoted inside) rest
quoted_there lang text tail inside more rest e parts closes ends spells = record {
  front = 34 ∷ (inside ++ 34 ∷ []);
  spelled = (inside, spells, refl);
  ends = ends;
  text_is = e ∙ ap (λ (t : List ℕ). 34 ∷ t) (parts ∙ ap (λ (t : List ℕ). inside ++ t) closes ∙ sym (append_assoc inside (34 ∷ []) rest));
}

pub bytes_there : (lang : Language) (text tail digits rest bs : List ℕ) → text ≡ 35 ∷ tail → tail ≡ digits ++ rest → SpellsBytes digits bs → EndsThere rest → HeadShape lang text (bytes bs) rest
bytes_there lang text tail digits rest bs e parts spells ends = record {
  front = 35 ∷ digits;
  spelled = (digits, spells, refl);
  ends = ends;
  text_is = e ∙ ap (λ (t : List ℕ). 35 ∷ t) parts;
}
