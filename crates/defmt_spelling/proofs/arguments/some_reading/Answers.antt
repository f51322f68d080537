use Rattle.defmt_spelling.proofs.SomeLaws as some
use Rattle.defmt_spelling.proofs.arguments.some_reading.Goals as goal

pub returns : goal.returns
returns c = some.some_reading
