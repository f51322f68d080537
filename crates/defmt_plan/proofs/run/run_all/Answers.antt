use Rattle.std.proofs.Common.{◌+◌, drop, drop_of_length-le}
use Rattle.defmt_intern.specs.Entries as map
use Rattle.defmt_encode.proofs.Laws.{bytes_fit}
use Rattle.defmt_hints.proofs.Chains.{kept_two}
use Rattle.defmt_plan.proofs.Onward.{next_step}
use Rattle.defmt_plan.proofs.Running.{runs_none, runs_more, runs_all}
use Rattle.defmt_plan.proofs.run.run_all.Goals as goal

pub loop-step-init : goal.loop-step-init
loop-step-init c = λ t. runs_none t c.args.steps.now c.args.bytes.now c.args.from c.args.at c.args.out.now c.requires.read c.requires.written

pub loop-step-preserved : goal.loop-step-preserved
loop-step-preserved c = λ t.
    runs_more t c.args.steps.now c.args.bytes.now c.args.from c.args.at c.args.out.now c.step-item.result _ (drop (c.loop-step.step-index + 1) c.args.steps.now) c.loop-step.progress c.in_ok-progress.progress c.loop-step.out c.stride.new.out (c.loop-step.invariant t)
    (next_step c.args.steps.now c.loop-step.step-index c.step-item.result c.loop-step-test.true c.step-item.is)
    (c.in_ok-progress.ensures t)

pub stride-requires : goal.stride-requires
stride-requires c = let h = c.loop-step.invariant map.empty in record { read = h.read; written = h.written }

pub returns-in_err-progress : goal.returns-in_err-progress
returns-in_err-progress c = λ t all pieces are.
    let h = c.loop-step.invariant t in
    rw c.from_residual.ensures (kept_two c.args.out.now c.loop-step.out c.stride.new.out c.args.at c.loop-step.progress.written h.behind h.kept (c.in_err-progress.ensures t))

pub returns : goal.returns
returns c = λ t all pieces are.
    runs_all t c.args.steps.now c.args.bytes.now c.args.from c.args.at c.args.out.now _ c.loop-step.progress c.loop-step.out (c.loop-step.invariant t) (drop_of_length-le c.args.steps.now c.loop-step-test.false) (bytes_fit c.args.bytes.now c.type_inv.bytes) c.requires.read all pieces are
