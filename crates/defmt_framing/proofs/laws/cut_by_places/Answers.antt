use Rattle.defmt_framing.proofs.Cutting.{laid_out}
use Rattle.defmt_framing.proofs.laws.cut_by_places.Goals as goal

pub returns : goal.returns
returns c first last between a b each = laid_out first last between a b each
