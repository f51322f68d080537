use Rattle.defmt_plan.proofs.forms.body_of_variants.Goals as goal

pub returns : goal.returns
returns c = rw c.in-Some.is at c.in_ok-all.ensures
