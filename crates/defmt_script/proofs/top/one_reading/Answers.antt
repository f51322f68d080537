use Rattle.defmt_script.proofs.ReadingLaws.{one_reading}
use Rattle.defmt_script.proofs.top.one_reading.Goals as goal

pub returns : goal.returns
returns c = one_reading c.one_verdict.ensures c.one_reading.ensures
