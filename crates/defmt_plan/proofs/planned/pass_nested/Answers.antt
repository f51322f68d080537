use Rattle.defmt_encode.proofs.Laws.{bytes_fit}
use Rattle.defmt_plan.proofs.Leading.{arguments_by}
use Rattle.defmt_plan.proofs.planned.pass_nested.Goals as goal

pub returns-in_err-after : goal.returns-in_err-after
returns-in_err-after c = λ t all pieces are a. rw c.from_residual.ensures ((rw c.deref.ensures.value at c.in_err-after.ensures) t all pieces are a)

pub returns : goal.returns
returns c = λ t all pieces are a.
    arguments_by t all pieces c.args.bytes.now c.args.from c.args.at c.in_ok-after.after c.args.out.now c.pass_steps.new.out (bytes_fit c.args.bytes.now c.type_inv.bytes) c.requires.read
    ((rw c.deref.ensures.value at c.in_ok-after.ensures) t all pieces are a)
