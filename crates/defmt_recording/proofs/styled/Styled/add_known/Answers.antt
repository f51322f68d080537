use Rattle.std.proofs.Common.{◌≡◌, ◌++◌, ◌∙◌, List, None, Option, ap, subst, sym, ℕ}
use Rattle.std.specs.Prelude.{slice_index_or}
use Rattle.std.proofs.lemmas.Result.{IfOk-weaker}
use Rattle.defmt_decode.specs.Event.{line_with}
use Rattle.defmt_forms.specs.declared.template.Template.{Template}
use Rattle.defmt_recording.proofs.Whole.{shown_line}
use Rattle.defmt_recording.specs.Styled.{Look, Reel, look_by, styled_line}
use Rattle.defmt_recording.specs.Templates.{filled}
use Rattle.defmt_recording.proofs.styled.Styled.add_known.Goals as goal

pub add_by_template-requires : goal.add_by_template-requires
add_by_template-requires c =
    (c.self.invariant.1 c.args.origin.now.index c.in-Some.template.now
    (ap (λ (l : List (Option Template)). slice_index_or l c.args.origin.now.index None) (sym c.deref.ensures.value) ∙ sym c.in-Some.ensures)).sized

pub returns-in-Some-clause-done : goal.returns-in-Some-clause-done
returns-in-Some-clause-done c =
    let l : Look = look_by c.self.inside.style.now c.self.inside.table.now.entries c.self.inside.places.now in
    let is = c.self.invariant.1 c.args.origin.now.index c.in-Some.template.now
    (ap (λ (l : List (Option Template)). slice_index_or l c.args.origin.now.index None) (sym c.deref.ensures.value) ∙ sym c.in-Some.ensures) in
    let told : List ℕ = filled l.style.form c.in-Some.template.now c.args.origin.now.parts c.args.text.now in
    let line : told ≡ styled_line c.args.self.now.look c.args.self.now.last (line_with c.args.origin.now c.args.text.now) =
    subst (λ (s : Reel). told ≡ styled_line s.look s.last (line_with c.args.origin.now c.args.text.now)) c.self.view_is
    (is.fills c.args.origin.now.parts c.args.text.now
    ∙ sym (shown_line l c.self.inside.last c.args.origin.now c.args.text.now (sym c.gap_between.ensures ∙ c.if-gap_between-ne0.false)
    (sym c.prints_index.ensures ∙ c.if-not-prints_index.false))) in
    IfOk-weaker c.add_by_template.result _ _ (λ so done held. done held ∙ ap (λ (t : List ℕ). c.args.out.now.items ++ t) line) c.add_by_template.ensures.done
