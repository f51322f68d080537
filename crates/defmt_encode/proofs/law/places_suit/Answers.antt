use Rattle.defmt_encode.proofs.Placing.{placed}
use Rattle.defmt_encode.proofs.law.places_suit.Goals as goal

pub returns : goal.returns
returns c = placed
