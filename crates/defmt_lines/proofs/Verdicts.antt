-- Verdicts on texts.
use Rattle.std.proofs.Common.{◌≡◌, ◌<◌, ◌≤◌, ◌++◌, ◌⊎◌, inl, inr, ℕ, List, [], ◌∷◌, length, Option, Some, None, Result, refl, sym, ◌∙◌, ap, subst, arith}
use Rattle.std.specs.Result.{result_err}
use Rattle.std.proofs.lemmas.Bool.{cases_lt}
use Rattle.defmt_grammar.specs.Grammar.{Spells, HasFault, SameFault}
use Rattle.defmt_grammar.specs.Fault.{cause_number}
use Rattle.defmt_grammar.specs.declared.fault.Cause.{Cause}
use Rattle.defmt_grammar.specs.declared.fault.Mode.{Mode}
use Rattle.defmt_grammar.specs.Language.{strict_of}
use Rattle.defmt_grammar.specs.declared.language.Language.{Language}
use Rattle.defmt_grammar.specs.declared.piece.Piece.{Piece}
use Rattle.defmt_intern.specs.Body.{HasNoBar, variants}
use Rattle.defmt_intern.specs.declared.entry.Tag.{Tag}
use Rattle.defmt_intern.specs.declared.entry.Tag.TheVariants as tags
use Rattle.defmt_intern.proofs.BodyLaws.{variants_alone, variants_one, variants_more}
use Rattle.defmt_lines.proofs.SomeForms.{some_answer}
use Rattle.defmt_lines.specs.Verdict.{Judges, JudgesBody, JudgesForms, JudgesVariants}

-- a text spells at most one list of pieces, or has one fault and spells nothing
pub record OneAnswer : Type 0 where
  pub one : (text : List ℕ) (mode : Mode) (ps qs : List Piece) → Spells text mode ps → Spells text mode qs → ps ≡ qs
  pub never_both : (text : List ℕ) (mode : Mode) (ps : List Piece) (cause : Cause) (at : ℕ) → Spells text mode ps → HasFault text mode cause at → ⊥
  pub first : (text : List ℕ) (mode : Mode) (c d : Cause) (a b : ℕ) → HasFault text mode c a → HasFault text mode d b → SameFault c d a b

module _ (law : OneAnswer) (language : Language) where
  one_of_forms : (texts : List (List ℕ)) (v w : Option ℕ) → JudgesForms language texts v → JudgesForms language texts w → v ≡ w
  one_of_forms [] v w p q = p ∙ sym q
  one_of_forms (text ∷ texts) v w (inl p) (inl q) = one_of_forms texts v w p.2 q.2
  one_of_forms (text ∷ texts) v w (inl p) (inr q) = absurd (law.never_both text (strict_of language) p.0 q.2.0 q.1 p.1 q.2.1)
  one_of_forms (text ∷ texts) v w (inr p) (inl q) = absurd (law.never_both text (strict_of language) q.0 p.2.0 p.1 q.1 p.2.1)
  one_of_forms (text ∷ texts) v w (inr p) (inr q) =
      let same : p.0 ≡ q.0 = p.2.2 ∙ ap cause_number (law.first text (strict_of language) p.2.0 q.2.0 p.1 q.1 p.2.1 q.2.1).cause ∙ sym q.2.2 in
      p.3 ∙ ap (λ (n : ℕ). let o : Option ℕ = Some n in o) same ∙ sym q.3

  one_of_variants : (texts : List (List ℕ)) (v w : Option ℕ) → JudgesVariants language texts v → JudgesVariants language texts w → v ≡ w
  one_of_variants texts v w (inl p) (inl q) = p.1 ∙ sym q.1
  one_of_variants texts v w (inl p) (inr q) = absurd (omega (arith, p.0, q.0))
  one_of_variants texts v w (inr p) (inl q) = absurd (omega (arith, p.0, q.0))
  one_of_variants texts v w (inr p) (inr q) = one_of_forms texts v w p.1 q.1

  one_of_body : (tag : Tag) (text : List ℕ) (v w : Option ℕ) → JudgesBody language tag text v → JudgesBody language tag text w → v ≡ w
  one_of_body tags.Interned text v w p q = p ∙ sym q
  one_of_body tags.Prim text v w p q = one_of_variants (variants text) v w p q
  one_of_body tags.Derived text v w p q = one_of_variants (variants text) v w p q
  one_of_body tags.Write text v w p q = one_of_variants (variants text) v w p q
  one_of_body tags.Trace text v w p q = one_of_forms (text ∷ []) v w p q
  one_of_body tags.Debug text v w p q = one_of_forms (text ∷ []) v w p q
  one_of_body tags.Info text v w p q = one_of_forms (text ∷ []) v w p q
  one_of_body tags.Warn text v w p q = one_of_forms (text ∷ []) v w p q
  one_of_body tags.Error text v w p q = one_of_forms (text ∷ []) v w p q
  one_of_body tags.Println text v w p q = one_of_forms (text ∷ []) v w p q
  one_of_body tags.Timestamp text v w p q = one_of_forms (text ∷ []) v w p q
  one_of_body (tags.Other name) text v w p q = one_of_forms (text ∷ []) v w p q

  by_cases : (tag : Tag) (text : List ℕ) (v w : Option ℕ)
      → ((4096 < length text) × (v ≡ Some 0)) ⊎ ((length text ≤ 4096) × JudgesBody language tag text v)
      → ((4096 < length text) × (w ≡ Some 0)) ⊎ ((length text ≤ 4096) × JudgesBody language tag text w) → v ≡ w
  by_cases tag text v w (inl p) (inl q) = p.1 ∙ sym q.1
  by_cases tag text v w (inl p) (inr q) = absurd (omega (arith, p.0, q.0))
  by_cases tag text v w (inr p) (inl q) = absurd (omega (arith, p.0, q.0))
  by_cases tag text v w (inr p) (inr q) = one_of_body tag text v w p.1 q.1

  pub one_verdict : (tag : Tag) (text : List ℕ) (v w : Option ℕ) → Judges language tag text v → Judges language tag text w → v ≡ w
  unfolding Judges
  one_verdict tag text v w p q = by_cases tag text v w p q

-- ---- what a reading says of its verdict

-- the verdict of a reading, where it is known how that ends
pub at_read : {A : Type 0} (language : Language) (texts : List (List ℕ)) {read ending : Result A ℕ} → read ≡ ending → JudgesForms language texts (result_err read) → JudgesForms language texts (result_err ending)
at_read {A = A} language texts is j = subst (λ (r : Result A ℕ). JudgesForms language texts (result_err r)) is j

-- one text, which isn't cut
pub uncut : (language : Language) (text : List ℕ) (v : Option ℕ) → length (variants text) ≡ 1 → JudgesForms language (text ∷ []) v → JudgesVariants language (variants text) v
uncut language text v one j = inr (omega (arith, one), subst (λ (ts : List (List ℕ)). JudgesForms language ts v) (sym (variants_alone text one)) j)

-- ---- variants one after another

-- what the verdict on the rest is, is the verdict on the whole
pub record IsBehind (language : Language) (rest text : List ℕ) : Type 0 where
  pub then : (v : Option ℕ) → JudgesForms language (variants rest) v → JudgesForms language (variants text) v

pub begins : (language : Language) (text : List ℕ) → IsBehind language text text
begins language text = record { then = λ v j. j }

taken_first : (language : Language) (variant : List ℕ) (more : List (List ℕ)) (v : Option ℕ) → JudgesForms language (variant ∷ []) None → JudgesForms language more v → JudgesForms language (variant ∷ more) v
taken_first language variant more v (inl p) j = inl (p.0, p.1, j)
taken_first language variant more v (inr p) j = absurd (cc p.3)

refused_first : (language : Language) (variant : List ℕ) (more : List (List ℕ)) (number : ℕ) → JudgesForms language (variant ∷ []) (Some number) → JudgesForms language (variant ∷ more) (Some number)
refused_first language variant more number (inl p) = absurd (cc p.2)
refused_first language variant more number (inr p) = inr p

pub goes_on : (language : Language) (rest text variant after : List ℕ) → IsBehind language rest text → rest ≡ variant ++ 124 ∷ after → HasNoBar variant → JudgesForms language (variant ∷ []) None → IsBehind language after text
goes_on language rest text variant after behind e bare taken = record {
  then = λ v j.
      let cut : variants rest ≡ variant ∷ variants after = ap variants e ∙ variants_more variant after bare in
      behind.then v (subst (λ (ts : List (List ℕ)). JudgesForms language ts v) (sym cut) (taken_first language variant (variants after) v taken j));
}

pub stops : (language : Language) (rest text variant after : List ℕ) (number : ℕ) → IsBehind language rest text → rest ≡ variant ++ 124 ∷ after → HasNoBar variant → JudgesForms language (variant ∷ []) (Some number)
    → JudgesForms language (variants text) (Some number)
stops language rest text variant after number behind e bare refused =
    let cut : variants rest ≡ variant ∷ variants after = ap variants e ∙ variants_more variant after bare in
    behind.then (Some number) (subst (λ (ts : List (List ℕ)). JudgesForms language ts (Some number)) (sym cut) (refused_first language variant (variants after) number refused))

pub ends : (language : Language) (rest text : List ℕ) (v : Option ℕ) → IsBehind language rest text → HasNoBar rest → JudgesForms language (rest ∷ []) v → JudgesForms language (variants text) v
ends language rest text v behind bare j = behind.then v (subst (λ (ts : List (List ℕ)). JudgesForms language ts v) (sym (variants_one rest bare)) j)

-- ---- each text has a verdict

module _ (language : Language) where
  some_forms : (texts : List (List ℕ)) → (v : Option ℕ) × JudgesForms language texts v
  some_forms [] = (None, refl)
  some_forms (text ∷ more) = elim (some_answer text (strict_of language)) [
    | inl s ↦ (let m = some_forms more in (m.0, inl (s.0, s.1, m.1)))
    | inr f ↦ (Some (cause_number f.0), inr (cause_number f.0, f.1, (f.0, f.2, refl), refl))
  ]

  some_variants : (texts : List (List ℕ)) → (v : Option ℕ) × JudgesVariants language texts v
  some_variants texts = elim (cases_lt 255 (length texts)) [
    | inl many ↦ (Some 0, inl (many, refl))
    | inr few ↦ (let f = some_forms texts in (f.0, inr (few, f.1)))
  ]

  some_body : (tag : Tag) (text : List ℕ) → (v : Option ℕ) × JudgesBody language tag text v
  some_body tags.Interned text = (None, refl)
  some_body tags.Prim text = some_variants (variants text)
  some_body tags.Derived text = some_variants (variants text)
  some_body tags.Write text = some_variants (variants text)
  some_body tags.Trace text = some_forms (text ∷ [])
  some_body tags.Debug text = some_forms (text ∷ [])
  some_body tags.Info text = some_forms (text ∷ [])
  some_body tags.Warn text = some_forms (text ∷ [])
  some_body tags.Error text = some_forms (text ∷ [])
  some_body tags.Println text = some_forms (text ∷ [])
  some_body tags.Timestamp text = some_forms (text ∷ [])
  some_body (tags.Other name) text = some_forms (text ∷ [])

  pub some_verdict : (tag : Tag) (text : List ℕ) → (v : Option ℕ) × Judges language tag text v
  unfolding Judges
  some_verdict tag text = elim (cases_lt 4096 (length text)) [
    | inl long ↦ (Some 0, inl (long, refl))
    | inr short ↦ (let b = some_body tag text in (b.0, inr (short, b.1)))
  ]
