use Rattle.defmt_framing.proofs.Cutting.{laid_out_always}
use Rattle.defmt_framing.proofs.laws.always_laid_out.Goals as goal

pub returns : goal.returns
returns c stream some = laid_out_always stream some
