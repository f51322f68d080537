use Rattle.std.proofs.Common.{◌≡◌, ◌++◌, ◌∙◌, [], List, None, Option, ap, drop, subst, sym, take, ℕ}
use Rattle.std.specs.Prelude.{slice_index_or}
use Rattle.std.proofs.lemmas.List.{append-nil}
use Rattle.std.proofs.lemmas.Option.{IfSome_then}
use Rattle.defmt_decode.specs.Event.{line_with}
use Rattle.defmt_forms.specs.declared.template.Template.{Template}
use Rattle.defmt_recording.proofs.Whole.{hidden_line, shown_line}
use Rattle.defmt_recording.specs.Styled.{Look, Reel, look_by, styled_line}
use Rattle.defmt_recording.specs.Templates.{filled}
use Rattle.defmt_recording.proofs.styled.Styled.place_known.Goals as goal

pub place_by_template-requires-clause-sized : goal.place_by_template-requires-clause-sized
place_by_template-requires-clause-sized c =
    (c.self.invariant.1 c.args.origin.now.index c.in-Some.template.now
    (ap (λ (l : List (Option Template)). slice_index_or l c.args.origin.now.index None) (sym c.deref.ensures.value) ∙ sym c.in-Some.ensures)).sized

pub returns-then-not-prints_index-clause-printed : goal.returns-then-not-prints_index-clause-printed
returns-then-not-prints_index-clause-printed c =
    let l : Look = look_by c.self.inside.style.now c.self.inside.table.now.entries c.self.inside.places.now in
    let front : List ℕ = take c.args.at c.args.text.now in
    let text : List ℕ = take c.args.size (drop c.args.at c.args.text.now) in
    let none : styled_line c.args.self.now.look c.args.self.now.last (line_with c.args.origin.now text) ≡ [] =
    subst (λ (s : Reel). styled_line s.look s.last (line_with c.args.origin.now text) ≡ []) c.self.view_is
    (hidden_line l c.self.inside.last c.args.origin.now text (sym c.gap_between.ensures ∙ c.if-gap_between-ne0.false)
    (sym c.prints_index.ensures ∙ c.if-not-prints_index.true)) in
    sym (append-nil front) ∙ ap (λ (t : List ℕ). front ++ t) (sym none)

pub returns-in-Some-clause-within : goal.returns-in-Some-clause-within
returns-in-Some-clause-within c = IfSome_then c.place_by_template.result c.place_by_template.ensures.some (λ end placed. placed.within)

pub returns-in-Some-clause-printed : goal.returns-in-Some-clause-printed
returns-in-Some-clause-printed c =
    let l : Look = look_by c.self.inside.style.now c.self.inside.table.now.entries c.self.inside.places.now in
    let text : List ℕ = take c.args.size (drop c.args.at c.args.text.now) in
    let is = c.self.invariant.1 c.args.origin.now.index c.in-Some.template.now
    (ap (λ (l : List (Option Template)). slice_index_or l c.args.origin.now.index None) (sym c.deref.ensures.value) ∙ sym c.in-Some.ensures) in
    let told : List ℕ = filled l.style.form c.in-Some.template.now c.args.origin.now.parts text in
    let line : told ≡ styled_line c.args.self.now.look c.args.self.now.last (line_with c.args.origin.now text) =
    subst (λ (s : Reel). told ≡ styled_line s.look s.last (line_with c.args.origin.now text)) c.self.view_is
    (is.fills c.args.origin.now.parts text
    ∙ sym (shown_line l c.self.inside.last c.args.origin.now text (sym c.gap_between.ensures ∙ c.if-gap_between-ne0.false)
    (sym c.prints_index.ensures ∙ c.if-not-prints_index.false))) in
    IfSome_then c.place_by_template.result c.place_by_template.ensures.some
    (λ end placed. placed.placed ∙ ap (λ (t : List ℕ). take c.args.at c.args.text.now ++ t) line)
