use Rattle.std.proofs.Common.{List, sym, subst}
use Rattle.defmt_plan.proofs.Planning.{plans_more}
use Rattle.defmt_plan.specs.Plans.{ArePlansIn}
use Rattle.defmt_plan.specs.declared.plan.Plan.{Plan}
use Rattle.defmt_plan.proofs.plan.plans_of.Goals as goal

pub loop-index-preserved-in-Continue-branch-3 : goal.loop-index-preserved-in-Continue-branch-3
loop-index-preserved-in-Continue-branch-3 c =
    subst (λ (ps : List Plan). ArePlansIn c.args.table.now.entries ps) (sym c.in_ok-push.ensures.items)
    (plans_more c.args.table.now.entries c.loop-index.plans.items c.in-Some-2.plan c.loop-index.invariant (rw c.in-Some-2.is at c.in_ok-plan.ensures))
