use Rattle.std.proofs.Common.{ℕ, List, get_or, ap, subst, sym, arith}
use Rattle.defmt_grammar.specs.Grammar.{IsBrace}
use Rattle.defmt_grammar.proofs.PlainLaws.{plain_at, is_brace, plain_unless}
use Rattle.defmt_grammar.proofs.step.split_plain.Goals as goal

pub returns-in-Some-clause-parts : goal.returns-in-Some-clause-parts
returns-in-Some-clause-parts c = plain_at c.args.text.now c.in-Some.at c.split_at.result (omega arith)
    (λ k lt. plain_unless _ (rw c.as_bytes.ensures.value at (c.in-Some.ensures.0.before k (omega arith) lt)))
    (λ lt. is_brace _ (rw c.as_bytes.ensures.value at c.in-Some.ensures.1))
    c.split_at.ensures.front c.split_at.ensures.back

pub returns-in-None-clause-parts : goal.returns-in-None-clause-parts
returns-in-None-clause-parts c = plain_at c.args.text.now _ c.split_at-in-None.result (omega arith)
    (λ k lt. plain_unless _ (rw c.as_bytes.ensures.value at (c.in-None.ensures k (omega arith) (omega arith))))
    (λ lt. absurd (omega arith)) c.split_at-in-None.ensures.front c.split_at-in-None.ensures.back
