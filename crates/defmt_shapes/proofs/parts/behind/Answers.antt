use Rattle.std.proofs.Common.{ℕ, List, get_or, ap, arith}
use Rattle.defmt_shapes.proofs.RunLaws.{one_boundary, behind_at, behind_not}
use Rattle.defmt_shapes.proofs.parts.behind.Goals as goal

pub split_at-requires : goal.split_at-requires
split_at-requires c = one_boundary c.args.text.now (get_or c.as_bytes.result.now 0 0) c.utf8.text (omega arith) (ap (λ (t : List ℕ). get_or t 0 0) c.as_bytes.ensures.value) (omega arith)

pub returns-in_default-clause-rest : goal.returns-in_default-clause-rest
returns-in_default-clause-rest c = behind_not c.args.first c.args.text.now (λ some. absurd (omega arith))

pub returns-then-from-first-clause-rest : goal.returns-then-from-first-clause-rest
returns-then-from-first-clause-rest c = behind_not c.args.first c.args.text.now (λ some same. absurd (omega (arith, ap (λ (t : List ℕ). get_or t 0 0) c.as_bytes.ensures.value, same)))

pub returns-clause-rest : goal.returns-clause-rest
returns-clause-rest c = behind_at c.args.first c.args.text.now c.split_at.result.1.now (omega arith) (omega (arith, ap (λ (t : List ℕ). get_or t 0 0) c.as_bytes.ensures.value)) c.split_at.ensures.back
