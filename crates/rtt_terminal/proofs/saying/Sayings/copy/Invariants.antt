use Rattle.std.proofs.Common.{◌≡◌, take}
use Rattle.rtt_terminal.proofs.saying.Sayings.copy.Given as goal

abbrev pub invariant-loop-saying : goal.invariant-loop-saying
invariant-loop-saying l = l.copy ≡ take l.saying-index l.saying-items
