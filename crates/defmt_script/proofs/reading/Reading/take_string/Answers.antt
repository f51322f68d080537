use Rattle.std.proofs.Common.{None, Ok, Option, Result, Some, ap, refl, subst, sym, ℕ, ◌≡◌, ◌∙◌}
use Rattle.std.specs.Result.{result_err}
use Rattle.defmt_grammar.specs.declared.language.Language.{Language}
use Rattle.defmt_intern.specs.Body.{body_in}
use Rattle.defmt_lines.specs.Verdict.{Judges}
use Rattle.defmt_lines.specs.declared.cause.Cause.{Cause}
use Rattle.defmt_script.proofs.StringSteadiness.{judged_short}
use Rattle.defmt_script.proofs.Steps.{string_new}
use Rattle.defmt_script.specs.State.{State}
use Rattle.defmt_script.proofs.reading.Reading.take_string.Goals as goal

pub add_string-requires-clause-new : goal.add_string-requires-clause-new
add_string-requires-clause-new c = string_new c.args.self.now c.args.line.name.now _ (sym c.admit_string.ensures ∙ c.in_default.is)

pub add_string-requires-clause-short : goal.add_string-requires-clause-short
add_string-requires-clause-short c = judged_short c.language.result c.args.line.tag c.args.line.text.now (result_err c.in_ok-parsed.field-0) (ap result_err c.in-Ok.is) c.in_ok-parsed.ensures.verdict

pub add_string-requires-clause-parsed : goal.add_string-requires-clause-parsed
add_string-requires-clause-parsed c =
    let language = c.language.ensures ∙ ap (λ (v : State). v.script.table.language) c.self.view_is in
    subst (λ (l : Language). c.in-Ok.parsed ≡ body_in l c.args.line.tag c.args.line.text.now) language (rw c.in-Ok.is at c.in_ok-parsed.ensures.parsed)

pub returns-in-Err-2 : goal.returns-in-Err-2
returns-in-Err-2 c =
    let language = c.language.ensures ∙ ap (λ (v : State). v.script.table.language) c.self.view_is in
    let by_result = subst (λ (v : Option ℕ). Judges c.language.result c.args.line.tag c.args.line.text.now v) (ap result_err c.in-Err-2.is) c.in_ok-parsed.ensures.verdict in
    let judged = subst (λ (l : Language). Judges l c.args.line.tag c.args.line.text.now (Some c.in-Err-2.inner)) language by_result in
    rw (sym c.admit_string.ensures ∙ c.in_default.is) (Some c.in-Err-2.inner, judged, refl)

pub returns : goal.returns
returns c =
    let language = c.language.ensures ∙ ap (λ (v : State). v.script.table.language) c.self.view_is in
    let by_result = subst (λ (v : Option ℕ). Judges c.language.result c.args.line.tag c.args.line.text.now v) (ap result_err c.in-Ok.is) c.in_ok-parsed.ensures.verdict in
    let judged = subst (λ (l : Language). Judges l c.args.line.tag c.args.line.text.now None) language by_result in
    rw (sym c.admit_string.ensures ∙ c.in_default.is) (None, judged, rw (← c.if-not-has_room_for_string.ensures) (ap (λ (s : State). let r : Result State Cause = Ok s in r) c.in_ok-add_string.ensures))
