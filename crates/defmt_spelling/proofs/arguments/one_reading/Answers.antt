use Rattle.defmt_spelling.proofs.Firsts.{one_head}
use Rattle.defmt_spelling.proofs.Wholes as wholes
use Rattle.defmt_spelling.proofs.arguments.one_reading.Goals as goal

pub returns : goal.returns
returns c = λ names table index text a b h k. wholes.one_reading one_head names table index text a b h k
