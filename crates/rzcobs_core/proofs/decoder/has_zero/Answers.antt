use Rattle.std.proofs.Common.{eq-eqb, eqb-true, sym, ◌∙◌, arith}
use Rattle.std.proofs.lemmas.List.{get_or_default}
use Rattle.rzcobs_core.proofs.decoder.has_zero.Goals as goal

pub returns-in-Some : goal.returns-in-Some
returns-in-Some c = (c.in-Some.field-0, c.in-Some.ensures.0.high, eqb-true _ _ c.in-Some.ensures.1)

pub returns-in-None : goal.returns-in-None
returns-in-None c k d within is = c.in-None.ensures k (omega arith) within (eq-eqb _ 0 (sym (get_or_default c.args.bytes.now k d 0 within) ∙ is))
