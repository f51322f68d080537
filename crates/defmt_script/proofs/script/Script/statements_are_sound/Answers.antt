use Rattle.std.proofs.Common.{subst}
use Rattle.defmt_script.proofs.Listed.{of_statement}
use Rattle.defmt_script.specs.Lawful.{AllAreSound}
use Rattle.defmt_script.specs.Script.{Script}
use Rattle.defmt_values.specs.Sound.{AreSound}
use Rattle.defmt_values.specs.declared.value.Statement.{Statement}
use Rattle.defmt_script.proofs.script.Script.statements_are_sound.Goals as goal

pub returns : goal.returns
returns c = λ writer place stm found.
    let all = subst (λ (s : Script). AllAreSound s.writers) c.self.view_is c.self.invariant.2 in
    of_statement (λ (stm : Statement). AreSound stm.args) c.args.self.now.writers writer place stm all found
