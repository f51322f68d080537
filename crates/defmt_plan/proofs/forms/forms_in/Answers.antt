use Rattle.std.proofs.Common.{List, sym, subst}
use Rattle.defmt_plan.proofs.Forming.{forms_more}
use Rattle.defmt_plan.specs.Forms.{AreFormsIn}
use Rattle.defmt_plan.specs.declared.forms.Form.{Form}
use Rattle.defmt_plan.proofs.forms.forms_in.Goals as goal

pub loop-index-preserved-in-Continue-branch-3 : goal.loop-index-preserved-in-Continue-branch-3
loop-index-preserved-in-Continue-branch-3 c =
    subst (λ (fs : List Form). AreFormsIn c.args.table.now.entries fs) (sym c.in_ok-push.ensures.items)
    (forms_more c.args.table.now.entries c.loop-index.forms.items c.in-Some-2.form c.loop-index.invariant (rw c.in-Some-2.is at c.in_ok-form.ensures))
