use Rattle.std.proofs.Common.{◌++◌, refl}
use Rattle.dl_io.proofs.Streams.{appends_then}
use Rattle.defmt_listen.proofs.Fronts.{then_front, longer_front}
use Rattle.defmt_listen.proofs.report.write_both.Goals as goal

pub returns-in-Err-clause-front : goal.returns-in-Err-clause-front
returns-in-Err-clause-front g c =
    longer_front (g.K.Sink.held c.args.out.now) (g.K.Sink.held c.write_all.new.out) c.args.first.now c.args.second.now (c.args.first.now ++ c.args.second.now) refl c.in-Err.ensures.prefix

pub returns-in-Ok-write_all-clause-ok : goal.returns-in-Ok-write_all-clause-ok
returns-in-Ok-write_all-clause-ok g c =
    appends_then (g.K.Sink.held c.args.out.now) (g.K.Sink.held c.write_all.new.out) (g.K.Sink.held c.write_all-2.new.out) c.args.first.now c.args.second.now c.in-Ok.ensures.ok c.in-Ok-write_all.ensures.ok

pub returns-in-Err-write_all-clause-front : goal.returns-in-Err-write_all-clause-front
returns-in-Err-write_all-clause-front g c =
    then_front (g.K.Sink.held c.args.out.now) (g.K.Sink.held c.write_all.new.out) (g.K.Sink.held c.write_all-2.new.out) c.args.first.now c.args.second.now c.in-Ok.ensures.ok c.in-Err-write_all.ensures.prefix
