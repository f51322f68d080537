-- Steps as they are made.
use Rattle.std.proofs.Common.{◌≡◌, ℕ, List, [], ◌∷◌, ◌++◌, length, sym, ap, subst, ◌∙◌, append_assoc}
use Rattle.std.proofs.lemmas.List.{append-nil}
use Rattle.defmt_grammar.specs.Slots.{slots_of}
use Rattle.defmt_grammar.specs.declared.piece.Piece.{Piece}
use Rattle.defmt_plan.specs.Steps.{AreSteps, IsNextStep, PassAll, behind, piece_of, pieces_from, pieces_of}
use Rattle.defmt_plan.specs.declared.steps.Step.{Step}

-- whatever more steps are the rest of the pieces and pass the rest of the positions, all are the pieces and pass all positions
pub record Made (made : List Step) (next : ℕ) (rest pieces all : List Piece) : Type 0 where
  pub are : (more : List Step) → pieces_from next more ≡ rest → pieces_of (made ++ more) ≡ pieces
  pub pass : (more : List Step) → PassAll all next more → PassAll all 0 (made ++ more)

pub made_more : (made new : List Step) (next after : ℕ) (whole rest pieces all : List Piece) (step : Step) (piece : Piece) → Made made next whole pieces all → whole ≡ piece ∷ rest → piece_of next step ≡ piece → IsNextStep all next step → after ≡ behind next step → new ≡ made ++ step ∷ [] → Made new after rest pieces all
made_more made new next after whole rest pieces all step piece h e is own b p =
    let grown : (more : List Step) → new ++ more ≡ made ++ step ∷ more = λ more. ap (λ (ss : List Step). ss ++ more) p ∙ append_assoc made (step ∷ []) more in
    record {
      are = λ more k.
          ap (λ (ss : List Step). pieces_of ss) (grown more)
          ∙ h.are (step ∷ more) (ap (λ (x : Piece). x ∷ pieces_from (behind next step) more) is ∙ ap (λ (ps : List Piece). piece ∷ ps) (ap (λ (n : ℕ). pieces_from n more) (sym b) ∙ k) ∙ sym e);
      pass = λ more k. subst (λ (ss : List Step). PassAll all 0 ss) (sym (grown more)) (h.pass (step ∷ more) (own, subst (λ (n : ℕ). PassAll all n more) b k));
    }

pub made_all : (made : List Step) (next : ℕ) (rest pieces all : List Piece) → Made made next rest pieces all → rest ≡ [] → length (slots_of all) ≡ next → AreSteps all pieces made
made_all made next rest pieces all h e n = record {
  are = ap (λ (ss : List Step). pieces_of ss) (sym (append-nil made)) ∙ h.are [] (sym e);
  pass = subst (λ (ss : List Step). PassAll all 0 ss) (append-nil made) (h.pass [] n);
}
