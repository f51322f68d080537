use Rattle.defmt_floats.proofs.Enough.{digits_read}
use Rattle.defmt_floats.proofs.laws.digits_read_back.Goals as goal

pub returns : goal.returns
returns c = digits_read
