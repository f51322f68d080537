use Rattle.defmt_decode.proofs.Sending.{end_gone}
use Rattle.defmt_decode.proofs.laws.without_end.Goals as goal

pub returns : goal.returns
returns c t place sent are = end_gone t place sent are
