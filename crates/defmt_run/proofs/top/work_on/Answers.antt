use Rattle.std.proofs.Common.{refl, subst, sym}
use Rattle.std.specs.Prelude.{Some}
use Rattle.defmt_listen.specs.Streams.{Input, Output, input_of, output_of}
use Rattle.defmt_recording.specs.Calls.{Files, files_of}
use Rattle.defmt_recording.specs.Decoding.{Decodes}
use Rattle.defmt_recording.specs.Dumping.{Dumps}
use Rattle.defmt_run.proofs.Gated.{untold_gated}
use Rattle.defmt_run.specs.Session.{Answers}
use Rattle.defmt_run.specs.Told.{told}
use Rattle.defmt_recording.specs.declared.fault.Fault.{Fault}
use Rattle.defmt_words.specs.declared.job.Job.{Job}
use Rattle.defmt_run.proofs.top.work_on.Goals as goal

pub returns-in-Script-clause-answer : goal.returns-in-Script-clause-answer
returns-in-Script-clause-answer g c =
    subst (λ (job : Job). Answers (Some job)
    (input_of g.S.Source.left g.S.Source.faults c.args.src.now c.script_outcome.new.src)
    (files_of g.F.Shelf.files g.F.Shelf.faults c.args.shelf.now c.args.shelf.now)
    (output_of g.K.Sink.held g.K.Sink.faults c.args.out.now c.script_outcome.new.out)
    c.script_outcome.result.fault (told c.script_outcome.result)) (sym c.in-Script.is) (c.script_outcome.ensures.runs, refl)

pub returns-in-Decode-clause-answer : goal.returns-in-Decode-clause-answer
returns-in-Decode-clause-answer g c =
    let input : Input = input_of g.S.Source.left g.S.Source.faults c.args.src.now c.decode-fault.new.src in
    let shelf : Files = files_of g.F.Shelf.files g.F.Shelf.faults c.args.shelf.now c.decode-fault.new.shelf in
    let output : Output = output_of g.K.Sink.held g.K.Sink.faults c.args.out.now c.decode-fault.new.out in
    subst (λ (job : Job). Answers (Some job) input shelf output c.silent.result.fault (told c.silent.result)) (sym c.in-Decode.is) (
      subst (λ (f : Fault). Decodes c.in-Decode.options input shelf output f) (sym c.silent.ensures.fault) c.decode-fault.ensures.decodes,
      c.silent.ensures.untold,
    )

pub returns-in-Dump-clause-answer : goal.returns-in-Dump-clause-answer
returns-in-Dump-clause-answer g c =
    let input : Input = input_of g.S.Source.left g.S.Source.faults c.args.src.now c.dump-fault.new.src in
    let shelf : Files = files_of g.F.Shelf.files g.F.Shelf.faults c.args.shelf.now c.dump-fault.new.shelf in
    let output : Output = output_of g.K.Sink.held g.K.Sink.faults c.args.out.now c.dump-fault.new.out in
    subst (λ (job : Job). Answers (Some job) input shelf output c.silent-in-Dump.result.fault (told c.silent-in-Dump.result)) (sym c.in-Dump.is) (
      subst (λ (f : Fault). Dumps c.in-Dump.options input shelf output f) (sym c.silent-in-Dump.ensures.fault) c.dump-fault.ensures.dumps,
      c.silent-in-Dump.ensures.untold,
    )

pub returns-in-Decode-clause-gate : goal.returns-in-Decode-clause-gate
returns-in-Decode-clause-gate g c = untold_gated _ _ _ c.silent.ensures.untold

pub returns-in-Dump-clause-gate : goal.returns-in-Dump-clause-gate
returns-in-Dump-clause-gate g c = untold_gated _ _ _ c.silent-in-Dump.ensures.untold
