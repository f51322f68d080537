use Rattle.std.proofs.Common.{List, subst, sym, ℕ}
use Rattle.std.proofs.lemmas.Result.{IfErr-weaker, IfOk-weaker}
use Rattle.dl_io.specs.Buffer.{Buffer}
use Rattle.defmt_listen.specs.Heard.{recording_limit}
use Rattle.defmt_listen.specs.Streams.{Input, input_of}
use Rattle.defmt_recording.proofs.Images.{gives_none}
use Rattle.defmt_recording.specs.Calls.{GaveWithin}
use Rattle.defmt_recording.specs.Dumping.{AreAsked, Gives, GivesNone, StopsAt}
use Rattle.defmt_recording.specs.declared.fault.Fault.{Fault}
use Rattle.defmt_recording.proofs.dumping.given_bytes.Goals as goal

pub returns-in-Ok-clause-gives : goal.returns-in-Ok-clause-gives
returns-in-Ok-clause-gives g c =
    let input : Input = input_of g.S.Source.left g.S.Source.faults c.args.src.now c.read_all.new.src in
    let all = c.in-Ok.ensures.all in
    let gave : GaveWithin recording_limit input c.in-Ok.image.items = record { taken = all.1; at_end = all.2; within = all.0 } in
    let whole : GaveWithin recording_limit input c.as_slice.result.now = subst (λ (bytes : List ℕ). GaveWithin recording_limit input bytes) (sym c.as_slice.ensures) gave in
    IfOk-weaker c.asked_bytes.result (λ (bytes : Buffer). AreAsked c.args.options.now c.as_slice.result.now bytes.items) (λ (bytes : Buffer). Gives c.args.options.now input bytes.items)
    (λ bytes asked. record { image = c.as_slice.result.now; whole = whole; passes = asked.0; is = asked.1 }) c.asked_bytes.ensures.asked

pub returns-in-Ok-clause-none : goal.returns-in-Ok-clause-none
returns-in-Ok-clause-none g c =
    let input : Input = input_of g.S.Source.left g.S.Source.faults c.args.src.now c.read_all.new.src in
    let all = c.in-Ok.ensures.all in
    let gave : GaveWithin recording_limit input c.in-Ok.image.items = record { taken = all.1; at_end = all.2; within = all.0 } in
    let whole : GaveWithin recording_limit input c.as_slice.result.now = subst (λ (bytes : List ℕ). GaveWithin recording_limit input bytes) (sym c.as_slice.ensures) gave in
    IfErr-weaker c.asked_bytes.result (λ (fault : Fault). StopsAt c.args.options.now c.as_slice.result.now fault) (λ (fault : Fault). GivesNone c.args.options.now input fault)
    (λ fault stops. gives_none c.args.options.now input c.as_slice.result.now fault whole stops) c.asked_bytes.ensures.stops
