use denote.Exit.{no}
use denote.Param.Send.{arg_sync, param_sync}
use mir.Syntax.{erased}
use Rattle.defmt_blocks.proofs.Crossing.{there_sync}
use Rattle.defmt_listen.proofs.Wholes.{untouched}
use Rattle.defmt_listen.specs.Streams.{input_of, output_of}
use Rattle.defmt_recording.specs.Styled.{look_by, styled_reports}
use Rattle.defmt_blocks.proofs.beside.print_named.Goals as goal

pub returns-in_default-clause-hears : goal.returns-in_default-clause-hears
returns-in_default-clause-hears g c =
    untouched (styled_reports (look_by c.args.style.now c.args.table.now.entries c.args.places.now) c.args.live c.args.table.now)
    (input_of g.S.Source.left g.S.Source.faults c.args.src.now c.args.src.now)
    (output_of g.K.Sink.held g.K.Sink.faults c.args.out.now c.args.out.now)

pub returns-in_default-bounded-clause-hears : goal.returns-in_default-bounded-clause-hears
returns-in_default-bounded-clause-hears g c =
    untouched (styled_reports (look_by c.args.style.now c.args.table.now.entries c.args.places.now) c.args.live c.args.table.now)
    (input_of g.S.Source.left g.S.Source.faults c.args.src.now c.args.src.now)
    (output_of g.K.Sink.held g.K.Sink.faults c.args.out.now c.args.out.now)

pub returns-in_default-seats_of-clause-hears : goal.returns-in_default-seats_of-clause-hears
returns-in_default-seats_of-clause-hears g c =
    untouched (styled_reports (look_by c.args.style.now c.args.table.now.entries c.args.places.now) c.args.live c.args.table.now)
    (input_of g.S.Source.left g.S.Source.faults c.args.src.now c.args.src.now)
    (output_of g.K.Sink.held g.K.Sink.faults c.args.out.now c.args.out.now)

pub returns-clause-hears : goal.returns-clause-hears
returns-clause-hears g c = c.run_both.ensures.heard.hears

pub run_both-requires-sync-B : goal.run_both-requires-sync-B
run_both-requires-sync-B g c κs within = param_sync 0 _ (arg_sync _ no _ (there_sync (record { mir = erased; lft = _ }) g.row.G g.G.Kin c.type_bounds.send-G))
