use Rattle.defmt_encode.proofs.Laws as laws
use Rattle.defmt_encode.proofs.law.place_length.Goals as goal

pub returns : goal.returns
returns c = laws.place_length
