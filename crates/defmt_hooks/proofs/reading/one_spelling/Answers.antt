use Rattle.defmt_hooks.proofs.Spelled.{one_spelling}
use Rattle.defmt_hooks.proofs.reading.one_spelling.Goals as goal

pub returns : goal.returns
returns c = one_spelling
