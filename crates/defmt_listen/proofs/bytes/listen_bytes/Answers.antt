use Rattle.std.proofs.Common.{ℕ}
use Rattle.std.proofs.lemmas.Result.{IfErr-weaker, IfOk-weaker}
use Rattle.defmt_listen.proofs.ByteSource.{given, told_all, told_front}
use Rattle.defmt_listen.specs.Heard.{Breaks, HeardAll, Reports, recording_limit, ToldAll, ToldFront}
use Rattle.defmt_listen.specs.Streams.{Output, output_of}
use Rattle.defmt_listen.specs.declared.fault.ListenFault.{ListenFault}
use Rattle.defmt_listen.proofs.bytes.listen_bytes.Goals as goal

pub returns-clause-told : goal.returns-clause-told
returns-clause-told g c =
    let r : Reports g.row.R.Denot g.row.L-Event.Denot = record { tells = g.L.Listener.tells c.args.listener; reporting = g.R.Reporter.reporting; start = c.args.reporter; limit = recording_limit } in
    let output : Output = output_of g.K.Sink.held g.K.Sink.faults c.args.out.now c.listen.new.out in
    IfOk-weaker c.listen.result (λ (count : ℕ). HeardAll r (given c.args.bytes.now c.listen.new.src.left.now) output count) (λ (count : ℕ). ToldAll r c.args.bytes.now output count)
    (told_all r c.args.bytes.now c.listen.new.src.left.now output) c.listen.ensures.heard

pub returns-clause-front : goal.returns-clause-front
returns-clause-front g c =
    let r : Reports g.row.R.Denot g.row.L-Event.Denot = record { tells = g.L.Listener.tells c.args.listener; reporting = g.R.Reporter.reporting; start = c.args.reporter; limit = recording_limit } in
    let output : Output = output_of g.K.Sink.held g.K.Sink.faults c.args.out.now c.listen.new.out in
    IfErr-weaker c.listen.result (λ (fault : ListenFault). Breaks r (given c.args.bytes.now c.listen.new.src.left.now) output fault) (λ (fault : ListenFault). ToldFront r c.args.bytes.now output fault)
    (told_front r c.args.bytes.now c.listen.new.src.left.now output c.requires.within) c.listen.ensures.breaks
