use Rattle.std.proofs.Common.{arith, subst}
use Rattle.defmt_intern.specs.Catalog.{Catalog}
use Rattle.defmt_plan.proofs.Planning.{plan_at}
use Rattle.defmt_plan.specs.Plans.{IsPlanIn}
use Rattle.defmt_plan.proofs.planned.PlannedTable.plan.Goals as goal

pub returns-then-plan-index-clause-is : goal.returns-then-plan-index-clause-is
returns-then-plan-index-clause-is c =
    let h = rw c.deref-2.ensures.value at c.in_ok-plan.ensures.lookup in
    subst (λ (t : Catalog). IsPlanIn t.entries c.in_ok-plan.plan.now) c.self.view_is
    (plan_at c.self.inside.table.entries c.self.inside.plans.items c.from-2.result c.in_ok-plan.plan.now c.self.invariant.1 (omega (arith, h.3.0)) h.1)
