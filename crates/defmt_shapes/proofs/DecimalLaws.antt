-- Why no decimal number that a quick reader answers stands in front of a text.
use Rattle.std.proofs.Common.{◌≡◌, ◌<◌, ◌≤◌, ℕ, zero, suc, List, [], ◌∷◌, ◌++◌, length, get_or, take, drop, refl, sym, ap, subst, ◌∙◌, arith, inl, inr, Option, Some, None, Bor}
use Rattle.std.specs.Prelude.{MatchOption}
use Rattle.std.specs.Char.{digit_value}
use Rattle.std.specs.Str.Parse.{AllDigits, digits_value}
use Rattle.std.proofs.lemmas.Bool.{cases_lt, le-ltb, lt-ltb, both_ways}
use Rattle.std.proofs.lemmas.List.{take-append-drop}
use Rattle.std.proofs.lemmas.Str.Parse.{digit_from_value, digits_value-take-le}
use Rattle.defmt_grammar.specs.Cut.{behind}
use Rattle.defmt_grammar.proofs.Cuts.{behind_again}
use Rattle.defmt_grammar.specs.declared.language.Language.{Language}
use Rattle.defmt_shapes.specs.declared.parts.Class.TheVariants.{Decimal}
use Rattle.defmt_shapes.specs.Runs.{in_class, run}
use Rattle.defmt_shapes.specs.Shape.{HeadShape, EndsThere, decimal, negative}
use Rattle.defmt_shapes.proofs.LeadForms.{stops_class}
use Rattle.defmt_shapes.proofs.QuickHeads.{DigitsTo, negative_there}
use Rattle.defmt_shapes.proofs.RunLaws.{FailsThere, digits_pass, run_again}
use Rattle.defmt_shapes.proofs.ValueLaws.{ends_stop}

-- a byte that is no digit
pub no_digit : (c : ℕ) → (48 ≤ c → 57 < c) → 10 ≤ digit_value c
no_digit c out = elim (cases_lt (digit_value c) 10) [
  | inl lt ↦ absurd (let r = digit_from_value c lt in let far = out r.0 in omega (arith, r.1, far))
  | inr le ↦ le
]

fails_at : (text : List ℕ) (at : ℕ) → (at < length text → 10 ≤ digit_value (get_or text at 0)) → FailsThere (in_class Decimal) (drop at text)
fails_at [] zero h = tt
fails_at [] (suc at) h = tt
fails_at (c ∷ cs) zero h = le-ltb (digit_value c) 10 (h (omega arith))
fails_at (c ∷ cs) (suc at) h = fails_at cs at (λ lt. h (omega arith))

number_stops : (lang : Language) (text rest : List ℕ) (n : ℕ) → HeadShape lang text (decimal n) rest → FailsThere (in_class Decimal) rest
number_stops lang text rest n h = stops_class Decimal rest refl (ends_stop rest h.ends)

-- where the digits in front end, the number does
digits_are : (lang : Language) (text rest : List ℕ) (at n : ℕ) → AllDigits 10 (take at text) → (at < length text → 10 ≤ digit_value (get_or text at 0)) → (h : HeadShape lang text (decimal n) rest)
    → ◌≡◌ {A = List ℕ × List ℕ} (take at text, drop at text) (h.front, rest)
digits_are lang text rest at n all stop h =
    sym (run_again (in_class Decimal) (take at text) (drop at text) (digits_pass 10 (take at text) all) (fails_at text at stop))
    ∙ ap (run (in_class Decimal)) (take-append-drop at text ∙ h.text_is)
    ∙ run_again (in_class Decimal) h.front rest (digits_pass 10 h.front h.spelled.all) (number_stops lang text rest n h)

pub no_digits : (lang : Language) (text rest : List ℕ) (at n : ℕ) → at ≡ 0 → AllDigits 10 (take at text) → (at < length text → 10 ≤ digit_value (get_or text at 0)) → HeadShape lang text (decimal n) rest → ⊥
no_digits lang text rest at n none all stop h =
    let front : take at text ≡ h.front = ap (λ (p : List ℕ × List ℕ). p.0) (digits_are lang text rest at n all stop h) in
    let empty : take at text ≡ [] = ap (λ (k : ℕ). take k text) none in
    let size : length h.front ≡ 0 = ap length (sym front ∙ empty) in
    absurd (omega (arith, size, h.spelled.some))

pub no_end : (lang : Language) (text rest : List ℕ) (at n : ℕ) → (EndsThere (drop at text) → ⊥) → AllDigits 10 (take at text) → (at < length text → 10 ≤ digit_value (get_or text at 0)) → HeadShape lang text (decimal n) rest → ⊥
no_end lang text rest at n shut all stop h = shut (subst EndsThere (sym (ap (λ (p : List ℕ × List ℕ). p.1) (digits_are lang text rest at n all stop h))) h.ends)

-- digits in front are those of the number
within : (front rest : List ℕ) (i : ℕ) → AllDigits 10 (take i (front ++ rest)) → FailsThere (in_class Decimal) rest → take i (front ++ rest) ≡ take i front
within [] rest zero all fails = refl
within [] [] (suc i) all fails = refl
within [] (c ∷ cs) (suc i) all fails = absurd (both_ways (in_class Decimal c) fails (lt-ltb (digit_value c) 10 all.0))
within (c ∷ cs) rest zero all fails = refl
within (c ∷ cs) rest (suc i) all fails = ap (λ (t : List ℕ). c ∷ t) (within cs rest i all.1 fails)

-- so the number is at least as large as theirs
pub at_least : (lang : Language) (text rest : List ℕ) (i number n : ℕ) → DigitsTo text i number → HeadShape lang text (decimal n) rest → number ≤ n
at_least lang text rest i number n d h =
    let all : AllDigits 10 (take i (h.front ++ rest)) = subst (λ (t : List ℕ). AllDigits 10 (take i t)) h.text_is d.digits in
    let same : take i text ≡ take i h.front = ap (take i) h.text_is ∙ within h.front rest i all (number_stops lang text rest n h) in
    let value : digits_value 10 (take i h.front) ≡ number = ap (digits_value 10) (sym same) ∙ d.value in
    let least = digits_value-take-le 10 h.front i (omega arith) in
    omega (arith, value, least, h.spelled.value)

-- ---- behind a sign

pub no_sign : (lang : Language) (text rest : List ℕ) (n : ℕ) → None ≡ behind 45 text → HeadShape lang text (negative n) rest → ⊥
no_sign lang text rest n none h =
    let w : text ≡ 45 ∷ (h.spelled.0 ++ rest) = h.text_is ∙ ap (λ (t : List ℕ). t ++ rest) h.spelled.2 in
    absurd (let k : None ≡ Some (h.spelled.0 ++ rest) = none ∙ ap (behind 45) w ∙ behind_again 45 (h.spelled.0 ++ rest) in cc)

number_behind : (lang : Language) (text digits rest : List ℕ) (n : ℕ) → text ≡ 45 ∷ digits → HeadShape lang text (negative n) rest → HeadShape lang digits (decimal n) rest
number_behind lang text digits rest n e h = record {
  front = h.spelled.0;
  spelled = h.spelled.1;
  ends = h.ends;
  text_is = ap (drop 1) (sym e ∙ h.text_is ∙ ap (λ (t : List ℕ). t ++ rest) h.spelled.2);
}

pub negative_behind : (lang : Language) (least : ℕ) (text digits : List ℕ) (r : Option (ℕ × Bor (List ℕ))) → text ≡ 45 ∷ digits
    → MatchOption r ((n : ℕ) (rest : List ℕ) → HeadShape lang digits (decimal n) rest → least ≤ n) (λ p. HeadShape lang digits (decimal p.0) p.1.now)
    → MatchOption r ((n : ℕ) (rest : List ℕ) → HeadShape lang text (negative n) rest → least ≤ n) (λ p. HeadShape lang text (negative p.0) p.1.now)
negative_behind lang least text digits None e h = λ n rest k. h n rest (number_behind lang text digits rest n e k)
negative_behind lang least text digits (Some p) e h = negative_there lang text digits p.1.now p.0 e h
