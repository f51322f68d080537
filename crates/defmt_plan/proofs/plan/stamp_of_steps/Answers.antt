use Rattle.std.proofs.Common.{◌∙◌, List, subst, sym}
use Rattle.defmt_plan.specs.Plans.{AreStampSteps}
use Rattle.defmt_plan.specs.declared.steps.Step.{Step}
use Rattle.defmt_plan.proofs.plan.stamp_of_steps.Goals as goal

pub returns-in-Some : goal.returns-in-Some
returns-in-Some c = λ t are. subst (λ (steps : List Step). AreStampSteps t steps) (sym c.deref.ensures.value ∙ c.in-Some.ensures) are
