use Rattle.std.proofs.Common.{rules, ℕ, ◌≢◌, get_or}
use Rattle.defmt_words.proofs.NumberLemmas.{hexadecimal_ok, hexadecimal_err}
use Rattle.defmt_words.proofs.number.hexadecimal_digits.Goals as goal

pub returns-in-Ok : goal.returns-in-Ok
returns-in-Ok c =
    let plain : get_or c.args.digits.now 0 0 ≢ 43 = search rules in
    hexadecimal_ok ℕ c.args.digits.now c.in-Ok.number plain c.in-Ok.ensures.value

pub returns-in-Err : goal.returns-in-Err
returns-in-Err c =
    let plain : get_or c.args.digits.now 0 0 ≢ 43 = search rules in
    hexadecimal_err _ c.args.digits.now c.in-Err.field-0 plain c.requires c.in-Err.ensures.value
