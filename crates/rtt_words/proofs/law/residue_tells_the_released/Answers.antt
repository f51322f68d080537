use Rattle.rtt_words.proofs.Laws.{residue_tells_released}
use Rattle.rtt_words.proofs.law.residue_tells_the_released.Goals as goal

pub returns : goal.returns
returns c = residue_tells_released
