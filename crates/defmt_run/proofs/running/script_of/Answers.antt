use Rattle.defmt_listen.specs.Streams.{Input, input_of}
use Rattle.defmt_run.proofs.Texts.{comes_all, stops_all}
use Rattle.defmt_run.proofs.running.script_of.Goals as goal

pub returns-clause-comes : goal.returns-clause-comes
returns-clause-comes g c =
    let input : Input = input_of g.S.Source.left g.S.Source.faults c.args.src.now c.text_of.new.src in
    comes_all c.args.job.now input c.in_ok-text.text.items c.as_slice.result.now c.suited_script.result c.in_ok-text.ensures.text c.as_slice.ensures
    c.suited_script.ensures.spelled c.suited_script.ensures.suits

pub returns-clause-comes_not : goal.returns-clause-comes_not
returns-clause-comes_not g c =
    let input : Input = input_of g.S.Source.left g.S.Source.faults c.args.src.now c.text_of.new.src in
    stops_all c.one_reading.ensures c.generated_reads.ensures c.args.job.now input c.in_ok-text.text.items c.as_slice.result.now c.suited_script.result
    c.in_ok-text.ensures.text c.as_slice.ensures c.suited_script.ensures.stops
