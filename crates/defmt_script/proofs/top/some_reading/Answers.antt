use Rattle.defmt_script.proofs.SomeReadings as some
use Rattle.defmt_script.proofs.top.some_reading.Goals as goal

pub returns : goal.returns
returns c = some.some_reading c.some_verdict.ensures.verdict c.some_reading.ensures
