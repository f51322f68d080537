use Rattle.std.proofs.Common.{◌∙◌, ◌-◌, ap, arith, ℕ}
use Rattle.std.specs.Prelude.{if◌then◌else◌, Option}
use Rattle.defmt_hooks.specs.declared.level.Level.{Level}
use Rattle.defmt_listen.specs.Streams.{Input, Output, input_of, output_of}
use Rattle.defmt_recording.specs.Decoding.{fault_by}
use Rattle.defmt_recording.specs.Styled.{Look}
use Rattle.defmt_recording.proofs.Showing.{all, begun, front, too_much}
use Rattle.defmt_recording.proofs.reporting.print_with.Goals as goal

pub listen_by-requires-clause-turns : goal.listen_by-requires-clause-turns
listen_by-requires-clause-turns g c = λ bytes src out took written. c.requires.anywhere src out

pub returns-in-Ok-clause-hears : goal.returns-in-Ok-clause-hears
returns-in-Ok-clause-hears g c =
    let input : Input = input_of g.S.Source.left g.S.Source.faults c.args.src.now c.listen_by.new.src in
    let output : Output = output_of g.K.Sink.held g.K.Sink.faults c.args.out.now c.listen_by.new.out in
    let l : Look = c.args.reporter.look in
    let on : Option Level = l.style.fail_on in
    let after = c.in-Ok.reporter in
    all l c.args.live c.args.listener.host.table input output c.args.reporter c.limit_of.result c.requires.fresh c.limit_of.ensures
    c.in-Ok.bad after c.fault_of.result (omega (arith, c.counted.ensures.small)) c.in-Ok.ensures.heard
    (c.fault_of.ensures ∙ ap (λ (o : Option Level). fault_by o c.failing.result c.counted.result) c.requires.same
    ∙ ap (λ (n : ℕ). fault_by on n c.counted.result) c.failing.ensures
    ∙ ap (λ (n : ℕ). fault_by on after.failing n) (c.counted.ensures.count ∙ ap (λ (n : ℕ). if c.args.live then c.in-Ok.bad - n else c.in-Ok.bad) c.cuts.ensures))

pub returns-in-Err-Source-clause-hears : goal.returns-in-Err-Source-clause-hears
returns-in-Err-Source-clause-hears g c =
    let input : Input = input_of g.S.Source.left g.S.Source.faults c.args.src.now c.listen_by.new.src in
    let output : Output = output_of g.K.Sink.held g.K.Sink.faults c.args.out.now c.listen_by.new.out in
    let why = rw c.in-Err-Source.field-0-is at c.in-Err-Source.ensures.breaks in
    (begun c.args.reporter.look c.args.live c.args.listener.host.table input output c.args.reporter c.limit_of.result c.requires.fresh c.limit_of.ensures why.0, why.1)

pub returns-in-Err-Sink-clause-hears : goal.returns-in-Err-Sink-clause-hears
returns-in-Err-Sink-clause-hears g c =
    let input : Input = input_of g.S.Source.left g.S.Source.faults c.args.src.now c.listen_by.new.src in
    let output : Output = output_of g.K.Sink.held g.K.Sink.faults c.args.out.now c.listen_by.new.out in
    let why = rw c.in-Err-Sink.field-0-is at c.in-Err-Sink.ensures.breaks in
    (front c.args.reporter.look c.args.live c.args.listener.host.table input output c.args.reporter c.limit_of.result c.requires.fresh c.limit_of.ensures why.0, why.1)

pub returns-in-Err-Long-clause-hears : goal.returns-in-Err-Long-clause-hears
returns-in-Err-Long-clause-hears g c =
    let input : Input = input_of g.S.Source.left g.S.Source.faults c.args.src.now c.listen_by.new.src in
    let output : Output = output_of g.K.Sink.held g.K.Sink.faults c.args.out.now c.listen_by.new.out in
    too_much c.args.reporter.look c.args.live c.args.listener.host.table input output c.args.reporter c.limit_of.result c.requires.fresh c.limit_of.ensures
    (rw c.in-Err-Long.field-0-is at c.in-Err-Long.ensures.breaks)

pub returns-in-Err-Memory-clause-hears : goal.returns-in-Err-Memory-clause-hears
returns-in-Err-Memory-clause-hears g c =
    let input : Input = input_of g.S.Source.left g.S.Source.faults c.args.src.now c.listen_by.new.src in
    let output : Output = output_of g.K.Sink.held g.K.Sink.faults c.args.out.now c.listen_by.new.out in
    front c.args.reporter.look c.args.live c.args.listener.host.table input output c.args.reporter c.limit_of.result c.requires.fresh c.limit_of.ensures
    (rw c.in-Err-Memory.field-0-is at c.in-Err-Memory.ensures.breaks)
