use Rattle.std.proofs.Common.{◌≡◌, take}
use Rattle.rtt_terminal.proofs.speech.Speech.copy.Given as goal

abbrev pub invariant-loop-sayings : goal.invariant-loop-sayings
invariant-loop-sayings l = l.writers.items ≡ take l.sayings-index l.sayings-items
