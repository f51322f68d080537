use Rattle.std.proofs.Common.{List, ℕ, length, ap, subst, arith}
use Rattle.defmt_script.specs.Answers.{Answers}
use Rattle.defmt_script.proofs.top.read_lines.Goals as goal

pub read_text-requires : goal.read_text-requires
read_text-requires c = omega (arith, ap length c.in-Ok.ensures.cases.0, c.requires)

pub returns-in-Ok : goal.returns-in-Ok
returns-in-Ok c = subst (λ (t : List ℕ). Answers t c.read_text.result) c.in-Ok.ensures.cases.0 c.read_text.ensures
