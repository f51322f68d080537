use Rattle.defmt_encode.proofs.Lengths as lengths
use Rattle.defmt_encode.proofs.law.lengths_fit.Goals as goal

pub returns : goal.returns
returns c = lengths.message_lengths
