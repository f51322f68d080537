use Rattle.std.proofs.Common.{◌∙◌, sym, ap, Some, None, List, ℕ}
use Rattle.std.proofs.lemmas.Result.{err_from_is_err_and}
use Rattle.defmt_hooks.specs.declared.level.Floor.{Floor}
use Rattle.defmt_hooks.specs.declared.rules.Rules.{Rules}
use Rattle.defmt_hooks.specs.Reading.{rules_by}
use Rattle.defmt_hooks.proofs.Parts.{one_word, first_word, by_pairs}
use Rattle.defmt_hooks.proofs.reading.rules_of.Goals as goal

pub returns-in-Some-floor_of : goal.returns-in-Some-floor_of
returns-in-Some-floor_of c =
    let whole : List (List ℕ × Floor) → Rules = λ (ps : List (List ℕ × Floor)). record { rest = c.in-Some-floor_of.rest; packages = ps } in
    one_word c.args.text.now (Some c.in-Some-floor_of.rest) c.in-None.ensures.parts (sym c.in-Some-floor_of.ensures) ∙ ap (λ (ps : List (List ℕ × Floor)). Some (whole ps)) (sym c.new.ensures)

pub returns-in-None-floor_of : goal.returns-in-None-floor_of
returns-in-None-floor_of c = one_word c.args.text.now None c.in-None.ensures.parts (sym c.in-None-floor_of.ensures)

pub returns-in_err-packages-in-Some-floor_of-2 : goal.returns-in_err-packages-in-Some-floor_of-2
returns-in_err-packages-in-Some-floor_of-2 c =
    let p = err_from_is_err_and c.from_residual.result c.from_residual.ensures.1 in
    rw (p.1, p.2) (by_pairs c.args.text.now c.in-Some.word.now c.in-Some.more.now c.in-Some-floor_of-2.rest _ c.in-Some.ensures.parts (sym c.in-Some-floor_of-2.ensures) c.in_err-packages-in-Some-floor_of-2.ensures)

pub returns-in_ok-packages-in-Some-floor_of-2 : goal.returns-in_ok-packages-in-Some-floor_of-2
returns-in_ok-packages-in-Some-floor_of-2 c =
    first_word c.args.text.now c.in-Some.word.now c.in-Some.more.now (Some c.in-Some-floor_of-2.rest) c.in-Some.ensures.parts (sym c.in-Some-floor_of-2.ensures) ∙ ap (rules_by (Some c.in-Some-floor_of-2.rest)) c.in_ok-packages-in-Some-floor_of-2.ensures

pub returns-in-None-floor_of-2 : goal.returns-in-None-floor_of-2
returns-in-None-floor_of-2 c = first_word c.args.text.now c.in-Some.word.now c.in-Some.more.now None c.in-Some.ensures.parts (sym c.in-None-floor_of-2.ensures)
