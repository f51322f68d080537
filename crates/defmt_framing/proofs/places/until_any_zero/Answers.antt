use Rattle.std.proofs.Common.{eq-eqb, arith}
use Rattle.defmt_framing.proofs.Standing.{none_before}
use Rattle.defmt_framing.proofs.places.until_any_zero.Goals as goal

pub returns-in-Some-clause-none : goal.returns-in-Some-clause-none
returns-in-Some-clause-none c = none_before c.args.bytes.now c.in-Some.place (omega (arith, c.in-Some.ensures.0.high)) (λ k h is. c.in-Some.ensures.0.before k (omega arith) h (eq-eqb _ 0 is))

pub returns-in-None-clause-none : goal.returns-in-None-clause-none
returns-in-None-clause-none c = none_before c.args.bytes.now _ (omega arith) (λ k h is. c.in-None.ensures k (omega arith) h (eq-eqb _ 0 is))
