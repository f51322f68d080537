use Rattle.std.proofs.Common.{arith}
use Rattle.defmt_plan.proofs.Forming.{form_there}
use Rattle.defmt_plan.proofs.forms.find_form.Goals as goal

pub returns-then-form-index-clause-is : goal.returns-then-form-index-clause-is
returns-then-form-index-clause-is c = λ t are.
    let h = rw c.deref-2.ensures.value at c.in_ok-form.ensures.lookup in
    form_there t c.args.forms.now.items.items c.from.result c.in_ok-form.form.now are (omega (arith, h.3.0)) h.1
