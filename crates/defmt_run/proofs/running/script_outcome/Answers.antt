use Rattle.std.proofs.Common.{refl, subst, sym}
use Rattle.defmt_listen.specs.Streams.{Input, Output, input_of, output_of}
use Rattle.defmt_recording.proofs.ToldInputs.{keeps}
use Rattle.defmt_run.proofs.Deciding.{ran, ran_not}
use Rattle.defmt_recording.specs.Calls.{IsUnwritten}
use Rattle.defmt_run.specs.Running.{Made, Runs}
use Rattle.defmt_run.proofs.Gated.{untold_gated}
use Rattle.defmt_run.specs.Told.{IsGated, Told, told}
use Rattle.defmt_recording.specs.declared.fault.Fault.{Fault}
use Rattle.defmt_run.proofs.running.script_outcome.Goals as goal

pub returns-in-Ok-clause-runs : goal.returns-in-Ok-clause-runs
returns-in-Ok-clause-runs g c =
    let input : Input = input_of g.S.Source.left g.S.Source.faults c.args.src.now c.making_of.new.src in
    let output : Output = output_of g.K.Sink.held g.K.Sink.faults c.args.out.now c.outcome_of_writing.new.out in
    ran c.args.job.now input output c.in-Ok.making.outcome.fault c.outcome_of_writing.result.fault (told c.outcome_of_writing.result) c.in-Ok.making.output.items
    (subst (λ (t : Told). Made c.args.job.now input t c.in-Ok.making.output.items c.in-Ok.making.outcome.fault) (sym c.outcome_of_writing.ensures.same) c.in-Ok.ensures.made)
    c.outcome_of_writing.ensures.written

pub returns-in-Err-clause-runs : goal.returns-in-Err-clause-runs
returns-in-Err-clause-runs g c =
    let input : Input = input_of g.S.Source.left g.S.Source.faults c.args.src.now c.making_of.new.src in
    let output : Output = output_of g.K.Sink.held g.K.Sink.faults c.args.out.now c.args.out.now in
    let unwritten : IsUnwritten output = record { held = keeps (g.K.Sink.held c.args.out.now); faults = refl } in
    subst (λ (f : Fault). Runs c.args.job.now input output f (told c.silent.result)) (sym c.silent.ensures.fault)
    (ran_not c.args.job.now input output c.in-Err.fault (told c.silent.result) c.in-Err.ensures.comes_not unwritten c.silent.ensures.untold)

pub returns-in-Ok-clause-gate : goal.returns-in-Ok-clause-gate
returns-in-Ok-clause-gate g c =
    subst (λ (t : Told). IsGated (g.G.Gate.passed c.args.gate.now) (g.G.Gate.told c.args.gate.now) t) (sym c.outcome_of_writing.ensures.same) c.in-Ok.ensures.gate

pub returns-in-Err-clause-gate : goal.returns-in-Err-clause-gate
returns-in-Err-clause-gate g c = untold_gated _ _ _ c.silent.ensures.untold
