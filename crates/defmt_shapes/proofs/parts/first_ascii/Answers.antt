use Rattle.std.proofs.Common.{ℕ, List, get_or, ap, arith}
use Rattle.defmt_shapes.proofs.RunLaws.{one_boundary, first_ascii_at, first_ascii_none}
use Rattle.defmt_shapes.proofs.parts.first_ascii.Goals as goal

pub returns-in_default-clause-parts : goal.returns-in_default-clause-parts
returns-in_default-clause-parts c = first_ascii_none c.args.text.now (λ some. absurd (omega arith))

pub returns-then-first-ge128-clause-parts : goal.returns-then-first-ge128-clause-parts
returns-then-first-ge128-clause-parts c = first_ascii_none c.args.text.now (λ some. rw c.as_bytes.ensures.value at c.if-first-ge128.true)

pub split_at-requires : goal.split_at-requires
split_at-requires c = one_boundary c.args.text.now (get_or c.as_bytes.result.now 0 0) c.utf8.text (omega arith) (ap (λ (t : List ℕ). get_or t 0 0) c.as_bytes.ensures.value) (omega arith)

pub returns-clause-parts : goal.returns-clause-parts
returns-clause-parts c = first_ascii_at c.args.text.now (get_or c.as_bytes.result.now 0 0) c.split_at.result.1.now (omega arith) (ap (λ (t : List ℕ). get_or t 0 0) c.as_bytes.ensures.value) (omega arith) c.split_at.ensures.back
