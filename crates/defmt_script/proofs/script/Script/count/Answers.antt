use Rattle.std.proofs.Common.{ap, arith, length}
use Rattle.defmt_script.proofs.StatementSteadiness.{count_within}
use Rattle.defmt_script.proofs.script.Script.count.Goals as goal

pub overflow_cast-result : goal.overflow_cast-result
overflow_cast-result c = omega (arith, ap length c.statements.ensures, count_within c.args.self.now.writers c.args.writer, c.lawful.ensures.few)
