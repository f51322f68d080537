use Rattle.std.proofs.Common.{subst}
use Rattle.defmt_intern.specs.Catalog.{Catalog}
use Rattle.defmt_plan.specs.Forms.{AreFormsIn}
use Rattle.defmt_plan.proofs.planned.PlannedTable.arguments.Goals as goal

pub returns-then-plan : goal.returns-then-plan
returns-then-plan c = λ is.
    rw c.read_at_once.ensures (c.pass_nested.ensures c.args.self.now.entries is.pieces is.rest
    (subst (λ (t : Catalog). AreFormsIn t.entries c.self.inside.forms.items.items) c.self.view_is c.self.invariant.2) is.steps_are)

pub returns-else-plan : goal.returns-else-plan
returns-else-plan c = λ is. (rw c.deref.ensures.value at c.run.ensures) c.args.self.now.entries is.pieces is.rest is.steps_are

pub pass_nested-requires-clause-planned : goal.pass_nested-requires-clause-planned
pass_nested-requires-clause-planned c = record { table = c.self.inside.table.entries; are = c.self.invariant.2 }
