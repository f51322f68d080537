use Rattle.rtt_words.proofs.Laws.{one_load}
use Rattle.rtt_words.proofs.law.loaded_is_last_stored.Goals as goal

pub returns : goal.returns
returns c = one_load
