use Rattle.defmt_script.proofs.ReadingLaws.{decided}
use Rattle.defmt_script.proofs.top.read.Goals as goal

pub returns-clause-decides : goal.returns-clause-decides
returns-clause-decides c = decided c.one_reading.ensures c.args.text.now c.read_lines.result c.read_lines.ensures
