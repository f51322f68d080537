use Rattle.std.proofs.Common.{subst, ◌≤◌}
use Rattle.defmt_script.specs.Script.{count_statements}
use Rattle.defmt_script.specs.State.{State}
use Rattle.defmt_script.proofs.reading.Reading.has_few.Goals as goal

pub returns : goal.returns
returns c = subst (λ (v : State). count_statements v.script ≤ 4096) c.self.view_is c.self.invariant.steady.few
