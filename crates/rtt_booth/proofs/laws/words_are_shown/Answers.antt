use Rattle.rtt_booth.proofs.Shown.{all_said, shown}
use Rattle.rtt_booth.proofs.laws.words_are_shown.Goals as goal

pub returns-clause-shown : goal.returns-clause-shown
returns-clause-shown c = shown

pub returns-clause-all : goal.returns-clause-all
returns-clause-all c = all_said
