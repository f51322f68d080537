use Rattle.rtt_words.proofs.Laws.{no_blind_lower, no_blind_upper}
use Rattle.rtt_words.proofs.law.no_look_is_blind.Goals as goal

pub returns-clause-upper : goal.returns-clause-upper
returns-clause-upper c = no_blind_upper

pub returns-clause-lower : goal.returns-clause-lower
returns-clause-lower c = no_blind_lower
