use Rattle.std.proofs.Common.{sym, eq-eqb, eqb-true, arith}
use Rattle.elf_section.proofs.StringLaws.{gap_found, gap_none}
use Rattle.elf_section.proofs.bytes.gap.Goals as goal

pub returns-in-Some : goal.returns-in-Some
returns-in-Some c = sym (gap_found c.args.bytes.now c.in-Some.at c.in-Some.ensures.0.high (eqb-true _ _ c.in-Some.ensures.1) (λ k l is. c.in-Some.ensures.0.before k (omega arith) l (eq-eqb _ 0 is)))

pub returns-in-None : goal.returns-in-None
returns-in-None c = sym (gap_none c.args.bytes.now (λ k l is. c.in-None.ensures k (omega arith) l (eq-eqb _ 0 is)))
