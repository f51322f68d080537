use Rattle.defmt_listen.proofs.Wholes.{untouched}
use Rattle.defmt_listen.specs.Streams.{input_of, output_of}
use Rattle.defmt_recording.specs.Styled.{look_by, styled_reports}
use Rattle.defmt_blocks.proofs.beside.print_here.Goals as goal

pub returns-in_default-clause-hears : goal.returns-in_default-clause-hears
returns-in_default-clause-hears g c =
    untouched (styled_reports (look_by c.args.here.now.desk.style.now c.args.here.now.desk.table.now.entries c.args.here.now.desk.places.now) c.args.here.now.desk.live c.args.here.now.desk.table.now)
    (input_of g.S.Source.left g.S.Source.faults c.args.src.now c.args.src.now)
    (output_of g.K.Sink.held g.K.Sink.faults c.args.out.now c.args.out.now)

pub returns-in_default-crew_of-clause-hears : goal.returns-in_default-crew_of-clause-hears
returns-in_default-crew_of-clause-hears g c =
    untouched (styled_reports (look_by c.args.here.now.desk.style.now c.args.here.now.desk.table.now.entries c.args.here.now.desk.places.now) c.args.here.now.desk.live c.args.here.now.desk.table.now)
    (input_of g.S.Source.left g.S.Source.faults c.args.src.now c.args.src.now)
    (output_of g.K.Sink.held g.K.Sink.faults c.args.out.now c.args.out.now)
