use Rattle.std.proofs.Common.{ap, ◌∙◌}
use Rattle.defmt_script.specs.Script.{Script}
use Rattle.defmt_script.proofs.script.Script.table.Goals as goal

pub returns-clause-profile : goal.returns-clause-profile
returns-clause-profile c = c.self.invariant.1 ∙ ap (λ (v : Script). v.settings.profile) c.self.view_is
