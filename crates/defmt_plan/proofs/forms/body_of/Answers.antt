use Rattle.defmt_plan.proofs.forms.body_of.Goals as goal

pub returns-in-One : goal.returns-in-One
returns-in-One c = rw c.in-One.is c.body_of_one.ensures

pub returns-in-Variants : goal.returns-in-Variants
returns-in-Variants c = rw c.in-Variants.is (rw c.as_slice.ensures at c.body_of_variants.ensures)
