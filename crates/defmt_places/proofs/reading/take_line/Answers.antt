use Rattle.std.proofs.Common.{List, ℕ, ap, refl, subst, sym, ◌∙◌}
use Rattle.std.specs.Prelude.{Result}
use Rattle.defmt_places.specs.Answers.{Takes}
use Rattle.defmt_places.specs.Places.{Map, pair_in, with_place}
use Rattle.defmt_places.specs.declared.fault.Cause.{Cause}
use Rattle.defmt_places.proofs.Lines.{line_of_bytes, line_of_text, line_passed_over}
use Rattle.defmt_places.proofs.reading.take_line.Goals as goal

pub returns-in_default : goal.returns-in_default
returns-in_default c = (line_of_bytes c.args.places.now c.args.line.now c.in_default.ensures.cases.0, refl)

pub returns-then-is_passed_over : goal.returns-then-is_passed_over
returns-then-is_passed_over c =
    line_passed_over c.args.places.now c.args.line.now c.in-Ok.ensures.cases.1 (sym c.is_passed_over.ensures ∙ c.if-is_passed_over.true)

pub returns : goal.returns
returns c =
    let text = c.in-Ok.ensures.cases in
    let line = line_of_text c.args.places.now c.args.line.now text.1 (sym c.is_passed_over.ensures ∙ c.if-is_passed_over.false) in
    subst (λ (r : Result Map Cause). Takes r c.args.places.now c.take_text.result c.take_text.new.places)
    (ap (λ (t : List ℕ). with_place c.args.places.now (pair_in t)) text.0 ∙ sym line) c.take_text.ensures
