use Rattle.std.proofs.Common.{Some}
use Rattle.defmt_plan.proofs.Reached.{one_by}
use Rattle.defmt_plan.proofs.reach.pass_leaf.Goals as goal

pub returns-in_err-after : goal.returns-in_err-after
returns-in_err-after c = λ t left. rw c.from_residual.ensures (c.in_err-after.ensures t)

pub returns : goal.returns
returns c = λ t left.
    one_by (Some c.in_ok-after.after) t left c.args.kind c.args.hint c.args.bytes.now (record { read = c.args.before.read; written = c.args.before.written }) c.args.before.opened c.args.out.now c.pass_value.new.out c.requires.few (c.in_ok-after.ensures t)
