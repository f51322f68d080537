use Rattle.std.proofs.Common.{◌≡◌, ◌∙◌, Some, ap, refl, rules}
use Rattle.defmt_grammar.specs.declared.slot.Slot.TheVariants as slots
use Rattle.defmt_plan.proofs.steps.value_step.Goals as goal

pub returns-then-eq-clause-is : goal.returns-then-eq-clause-is
returns-then-eq-clause-is c = λ next. refl

same : (c : goal.Then-eq) → c.in-One.own ≡ c.args.kind
same c = search rules

pub returns-then-eq-clause-own : goal.returns-then-eq-clause-own
returns-then-eq-clause-own c = λ all next there uses. (there ∙ ap Some (c.in-One.is ∙ ap slots.One (same c)), uses ∙ c.if-uses-eq1.true)
