use Rattle.defmt_plan.specs.Forms.{AreFormsIn}
use Rattle.defmt_plan.proofs.forms.forms_in.Given as goal

abbrev pub invariant-loop-index : goal.invariant-loop-index
invariant-loop-index l = AreFormsIn l.table.entries l.forms.items
