use Rattle.rtt_down.proofs.ModeLaws.{modes_are_set}
use Rattle.rtt_down.proofs.mode.modes_are_set.Goals as goal

pub returns : goal.returns
returns c = modes_are_set
