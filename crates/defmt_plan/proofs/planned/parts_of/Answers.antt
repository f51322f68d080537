use Rattle.defmt_plan.proofs.Parting.{no_parts, some_parts}
use Rattle.defmt_plan.proofs.planned.parts_of.Goals as goal

pub returns-then-plan-eq0 : goal.returns-then-plan-eq0
returns-then-plan-eq0 c = λ t stamp is e. no_parts t c.args.plan.now c.args.size stamp is c.if-plan-eq0.true

pub returns : goal.returns
returns c = λ t stamp is e. rw c.from.ensures (some_parts t c.args.plan.now c.args.size stamp c.args.stamped is c.if-plan-eq0.false e)
