use Rattle.std.proofs.Common.{rules, ℕ, ◌≢◌, get_or}
use Rattle.defmt_words.proofs.NumberLemmas.{numeral_ok, numeral_err}
use Rattle.defmt_words.proofs.number.numeral_of.Goals as goal

pub returns-in-Ok : goal.returns-in-Ok
returns-in-Ok c =
    let plain : get_or c.args.text.now 0 0 ≢ 43 = search rules in
    numeral_ok ℕ c.args.text.now c.in-Ok.number plain c.in-Ok.ensures.value.0

pub returns-in-Err : goal.returns-in-Err
returns-in-Err c =
    let plain : get_or c.args.text.now 0 0 ≢ 43 = search rules in
    numeral_err _ c.args.text.now c.in-Err.field-0 plain c.in-Err.ensures.value.0
