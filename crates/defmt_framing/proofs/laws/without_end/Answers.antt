use Rattle.defmt_framing.proofs.Truncating as law
use Rattle.defmt_framing.proofs.laws.without_end.Goals as goal

pub returns : goal.returns
returns g c tells place codes are = law.without_end tells place codes are
