use Rattle.defmt_plan.specs.Plans.{ArePlansIn}
use Rattle.defmt_plan.proofs.plan.plans_of.Given as goal

abbrev pub invariant-loop-index : goal.invariant-loop-index
invariant-loop-index l = ArePlansIn l.table.entries l.plans.items
