use Rattle.std.proofs.Common.{◌∷◌, List, sym, ◌∙◌, ap}
use Rattle.std.proofs.lemmas.Bool.{eqb-true}
use Rattle.std.proofs.lemmas.List.{nil_from_length}
use Rattle.defmt_grammar.specs.declared.kind.Kind.{Kind}
use Rattle.defmt_plan.specs.Steps.{number_step}
use Rattle.defmt_plan.specs.declared.steps.Step.{Step}
use Rattle.defmt_plan.specs.declared.steps.Step.TheVariants.{Value}
use Rattle.defmt_plan.proofs.run.lone_number.Goals as goal

pub returns-in-Uint : goal.returns-in-Uint
returns-in-Uint c =
    c.in-Some.ensures.cases.0
    ∙ ap (λ (s : Step). s ∷ c.in-Some.rest.now) (c.in-Value.is ∙ ap (λ (k : Kind). Value k c.in-Value.hint) c.in-Uint.is)
    ∙ ap (λ (ss : List Step). number_step c.in-Uint.size c.in-Value.hint ∷ ss) (nil_from_length c.in-Some.rest.now (eqb-true _ 0 (sym c.is_empty.ensures ∙ c.if-not-is_empty.false)))
