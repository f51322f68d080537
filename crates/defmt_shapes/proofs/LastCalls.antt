-- A call without a variant that goes up to the end of a text.
use Rattle.std.proofs.Common.{◌≡◌, ℕ, true, false, List, [], ◌∷◌, ◌++◌, refl, sym, ap, subst, ◌∙◌, Option, Some, None}
use Rattle.std.specs.List.{list_all}
use Rattle.std.proofs.lemmas.Bool.{both_ways}
use Rattle.std.proofs.lemmas.List.{append-nil}
use Rattle.defmt_grammar.specs.Cut.{behind, before}
use Rattle.defmt_grammar.proofs.Cuts.{behind_again, behind_found, before_again, before_found}
use Rattle.defmt_grammar.specs.declared.language.Language.{Language}
use Rattle.defmt_shapes.specs.declared.parts.Class.TheVariants.{Word}
use Rattle.defmt_shapes.specs.Runs.{in_class, run}
use Rattle.defmt_shapes.specs.Shape.{HeadShape, Shapes, SpellsShapes, call, is_name}
use Rattle.defmt_shapes.specs.Spelling.{IsLastCall, closes_at_once}
use Rattle.defmt_shapes.proofs.LeadForms.{name_words}
use Rattle.defmt_shapes.proofs.RunLaws.{run_again, run_found}

-- the letters, digits and `_` in front are the name, and the brackets follow
call_run : (text name inside : List ℕ) → IsLastCall text name inside → run (in_class Word) text ≡ (name, 40 ∷ (inside ++ 41 ∷ []))
call_run text name inside h = ap (run (in_class Word)) h.text_is ∙ run_again (in_class Word) name (40 ∷ (inside ++ 41 ∷ [])) (name_words name h.name_is) refl

pub call_parts : (text name inside : List ℕ) (p : List ℕ × List ℕ) → p ≡ run (in_class Word) text → IsLastCall text name inside → (p.0 ≡ name) × (p.1 ≡ 40 ∷ (inside ++ 41 ∷ []))
call_parts text name inside p e h =
    let same : p ≡ (name, 40 ∷ (inside ++ 41 ∷ [])) = e ∙ call_run text name inside h in
    (ap (λ (q : List ℕ × List ℕ). q.0) same, ap (λ (q : List ℕ × List ℕ). q.1) same)

pub no_name : (text name inside : List ℕ) (p : List ℕ × List ℕ) → p ≡ run (in_class Word) text → is_name p.0 ≡ false → IsLastCall text name inside → ⊥
no_name text name inside p e not h = both_ways (is_name p.0) not (ap is_name (call_parts text name inside p e h).0 ∙ h.name_is)

is_none : (o : Option (List ℕ)) (t : List ℕ) → None ≡ o → o ≡ Some t → ⊥
is_none o t e h = absurd (let k : None ≡ Some t = e ∙ h in cc)

pub no_opening : (text name inside : List ℕ) (p : List ℕ × List ℕ) → p ≡ run (in_class Word) text → None ≡ behind 40 p.1 → IsLastCall text name inside → ⊥
no_opening text name inside p e none h =
    is_none (behind 40 p.1) (inside ++ 41 ∷ []) none (ap (behind 40) (call_parts text name inside p e h).1 ∙ behind_again 40 (inside ++ 41 ∷ []))

pub no_closing : (text name inside values : List ℕ) (p : List ℕ × List ℕ) → p ≡ run (in_class Word) text → Some values ≡ behind 40 p.1 → None ≡ before 41 values → IsLastCall text name inside → ⊥
no_closing text name inside values p e opens none h =
    let both : Some values ≡ Some (inside ++ 41 ∷ []) = opens ∙ ap (behind 40) (call_parts text name inside p e h).1 ∙ behind_again 40 (inside ++ 41 ∷ []) in
    let same : values ≡ inside ++ 41 ∷ [] = cc in
    is_none (before 41 values) inside none (ap (before 41) same ∙ before_again 41 inside)

-- more than closing brackets stand behind the first one
pub closes_early : (text name inside values own : List ℕ) (p : List ℕ × List ℕ) → p ≡ run (in_class Word) text → Some values ≡ behind 40 p.1 → Some own ≡ before 41 values → closes_at_once own ≡ false → IsLastCall text name inside → ⊥
closes_early text name inside values own p e opens closes not h =
    let both : Some values ≡ Some (inside ++ 41 ∷ []) = opens ∙ ap (behind 40) (call_parts text name inside p e h).1 ∙ behind_again 40 (inside ++ 41 ∷ []) in
    let same : values ≡ inside ++ 41 ∷ [] = cc in
    let found : Some own ≡ Some inside = closes ∙ ap (before 41) same ∙ before_again 41 inside in
    let is : own ≡ inside = cc in
    both_ways (closes_at_once own) not (ap closes_at_once is ∙ h.at_once)

pub call_found : (text values inside : List ℕ) (p : List ℕ × List ℕ) → p ≡ run (in_class Word) text → is_name p.0 ≡ true → Some values ≡ behind 40 p.1 → Some inside ≡ before 41 values → closes_at_once inside ≡ true → IsLastCall text p.0 inside
call_found text values inside p e is opens closes once = record {
  at_once = once;
  name_is = is;
  text_is = subst (λ (q : List ℕ × List ℕ). text ≡ q.0 ++ q.1) (sym e) (run_found (in_class Word) text).text_is
      ∙ ap (λ (t : List ℕ). p.0 ++ t) (behind_found 40 p.1 values (sym opens) ∙ ap (λ (t : List ℕ). 40 ∷ t) (before_found 41 values inside (sym closes)));
}

pub words_in : (text : List ℕ) (p : List ℕ × List ℕ) → p ≡ run (in_class Word) text → list_all (in_class Word) p.0 ≡ true
words_in text p e = rw e (run_found (in_class Word) text).passes

-- where the inside spells values, the text is the call of these
pub call_there : (lang : Language) (text name inside : List ℕ) (ss : Shapes) → IsLastCall text name inside → SpellsShapes lang inside ss → HeadShape lang text (call name None ss) []
call_there lang text name inside ss h s = record {
  front = text;
  spelled = ([], inside, h.name_is, refl, s, h.text_is);
  ends = tt;
  text_is = sym (append-nil text);
}
