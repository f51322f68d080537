use Rattle.defmt_encode.proofs.Laws as laws
use Rattle.defmt_encode.proofs.law.stamp_length.Goals as goal

pub returns : goal.returns
returns c = laws.stamp_length
