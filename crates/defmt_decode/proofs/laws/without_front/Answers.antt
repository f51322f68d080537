use Rattle.defmt_decode.proofs.Sending.{front_gone}
use Rattle.defmt_decode.proofs.laws.without_front.Goals as goal

pub returns : goal.returns
returns c t place sent are = front_gone t place sent are
