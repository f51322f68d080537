use Rattle.rtt_booth.proofs.Sizes.{spoken_short}
use Rattle.rtt_booth.proofs.laws.spoken_is_short.Goals as goal

pub returns : goal.returns
returns c = spoken_short
