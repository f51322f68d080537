use Rattle.std.proofs.Common.{eq-eqb, eqb-true, sym, ◌∙◌, arith}
use Rattle.defmt_lines.proofs.Marks.{up_to_place, from_mark_place, up_to_none, from_mark_none}
use Rattle.defmt_lines.proofs.cut.split_at_mark.Goals as goal

pub returns-in-Some-clause-front : goal.returns-in-Some-clause-front
returns-in-Some-clause-front c =
    c.split_at.ensures.front ∙ sym (up_to_place c.args.mark c.args.bytes.now c.in-Some.place c.in-Some.ensures.0.high (λ k lt e. c.in-Some.ensures.0.before k (omega arith) lt (eq-eqb _ _ e)) (eqb-true _ _ c.in-Some.ensures.1))

pub returns-in-Some-clause-rest : goal.returns-in-Some-clause-rest
returns-in-Some-clause-rest c =
    c.split_at.ensures.back ∙ sym (from_mark_place c.args.mark c.args.bytes.now c.in-Some.place c.in-Some.ensures.0.high (λ k lt e. c.in-Some.ensures.0.before k (omega arith) lt (eq-eqb _ _ e)) (eqb-true _ _ c.in-Some.ensures.1))

pub returns-in-None-clause-front : goal.returns-in-None-clause-front
returns-in-None-clause-front c = sym (up_to_none c.args.mark c.args.bytes.now (λ k lt e. c.in-None.ensures k (omega arith) lt (eq-eqb _ _ e)))

pub returns-in-None-clause-rest : goal.returns-in-None-clause-rest
returns-in-None-clause-rest c = sym (from_mark_none c.args.mark c.args.bytes.now (λ k lt e. c.in-None.ensures k (omega arith) lt (eq-eqb _ _ e)))
