use Rattle.std.proofs.Common.{eq-eqb, eqb-true, sym, arith}
use Rattle.defmt_encode.proofs.Ends.{ended_place, ended_nowhere}
use Rattle.defmt_encode.proofs.field.ended.Goals as goal

pub returns-in-Some : goal.returns-in-Some
returns-in-Some c = rw (c.split_at.ensures.front, c.split_at-in-Some.ensures.back) (sym (ended_place c.args.bytes.now c.in-Some.end c.in-Some.ensures.0.high (λ k lt e. c.in-Some.ensures.0.before k (omega arith) lt (eq-eqb _ _ e)) (eqb-true _ _ c.in-Some.ensures.1)))

pub returns-in-None : goal.returns-in-None
returns-in-None c = sym (ended_nowhere c.args.bytes.now (λ k lt e. c.in-None.ensures k (omega arith) lt (eq-eqb _ _ e)))
