use Rattle.rtt_words.proofs.Laws.{finds_released}
use Rattle.rtt_words.proofs.law.look_finds_the_released.Goals as goal

pub returns : goal.returns
returns c = finds_released
