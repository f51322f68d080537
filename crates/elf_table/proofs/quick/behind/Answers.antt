use Rattle.std.proofs.Common.{ℕ, List, get_or, ap, arith}
use Rattle.elf_table.proofs.QuickLaws.{one_boundary, first_is}
use Rattle.elf_table.proofs.quick.behind.Goals as goal

pub split_at-requires : goal.split_at-requires
split_at-requires c = one_boundary c.args.text.now (get_or c.as_bytes.result.now 0 0) c.utf8.text (omega arith) (ap (λ (t : List ℕ). get_or t 0 0) c.as_bytes.ensures.value) (omega arith)

pub returns-clause-rest : goal.returns-clause-rest
returns-clause-rest c = first_is c.args.first c.args.text.now c.split_at.result.1.now (omega arith) (omega (arith, ap (λ (t : List ℕ). get_or t 0 0) c.as_bytes.ensures.value)) c.split_at.ensures.back
