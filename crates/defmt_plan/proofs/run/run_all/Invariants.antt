use Rattle.std.proofs.Common.{drop}
use Rattle.defmt_intern.specs.Table.{Map}
use Rattle.defmt_plan.proofs.Running.{Runs}
use Rattle.defmt_plan.proofs.run.run_all.Given as goal

abbrev pub invariant-loop-step : goal.invariant-loop-step
invariant-loop-step l = (t : Map) → Runs t l.fn.steps (drop l.step-index l.steps) l.bytes l.fn.from l.fn.at l.progress l.fn.out l.out
