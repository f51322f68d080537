use Rattle.defmt_encode.proofs.Laws as laws
use Rattle.defmt_encode.proofs.law.reads_back.Goals as goal

pub returns : goal.returns
returns c = laws.reads_back
