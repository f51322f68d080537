use Rattle.std.proofs.Common.{◌≡◌, ◌∙◌, ◌++◌, ◌∷◌, [], subst, sym}
use Rattle.defmt_decode.specs.Event.{line_with}
use Rattle.defmt_listen.specs.declared.reporter.Passing.{Passing}
use Rattle.defmt_listen.specs.declared.reporter.Passing.TheVariants.{Kept, LeftOut}
use Rattle.defmt_recording.proofs.Whole.{hidden_line, whole_line}
use Rattle.defmt_recording.specs.Styled.{Look, Reel, look_by, styled_line}
use Rattle.defmt_recording.proofs.styled.StyledReporterHostListener.passes.Goals as goal
use Rattle.defmt_recording.proofs.styled.StyledReporterHostListener.passes.Goals.{then-prints_index, else-prints_index}

pub returns-clause-kept : goal.returns-clause-kept
returns-clause-kept c =
    let l : Look = look_by c.self.inside.style.now c.self.inside.table.now.entries c.self.inside.places.now in
    elim c.if-prints_index.branch [
      | then-prints_index w ↦ λ is text.
          subst (λ (s : Reel). styled_line s.look s.last (line_with c.args.origin.now text) ≡ text ++ 10 ∷ []) c.self.view_is
          (whole_line l c.self.inside.last c.args.origin.now text (c.self.invariant.0 c.if-not-self.false) (sym c.gap_between.ensures ∙ c.if-gap_between-ne0.false)
          (sym c.prints_index.ensures ∙ w.if-prints_index.true))
      | else-prints_index w ↦ λ is text. let e : LeftOut ≡ Kept = sym w.result-is ∙ is in absurd (cc e)
    ]

pub returns-clause-left_out : goal.returns-clause-left_out
returns-clause-left_out c =
    let l : Look = look_by c.self.inside.style.now c.self.inside.table.now.entries c.self.inside.places.now in
    elim c.if-prints_index.branch [
      | then-prints_index w ↦ λ is text. let e : Kept ≡ LeftOut = sym w.result-is ∙ is in absurd (cc e)
      | else-prints_index w ↦ λ is text.
          subst (λ (s : Reel). styled_line s.look s.last (line_with c.args.origin.now text) ≡ []) c.self.view_is
          (hidden_line l c.self.inside.last c.args.origin.now text (sym c.gap_between.ensures ∙ c.if-gap_between-ne0.false)
          (sym c.prints_index.ensures ∙ w.if-prints_index.false))
    ]
