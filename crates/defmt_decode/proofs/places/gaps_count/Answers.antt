use Rattle.defmt_decode.proofs.Gaps.{gap_is}
use Rattle.defmt_decode.proofs.places.gaps_count.Goals as goal

pub returns : goal.returns
returns c = gap_is
