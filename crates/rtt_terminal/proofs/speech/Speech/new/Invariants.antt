use Rattle.std.proofs.Common.{◌≡◌}
use Rattle.rtt_terminal.specs.Speech.{silence}
use Rattle.rtt_terminal.proofs.speech.Speech.new.Given as goal

abbrev pub invariant-loop : goal.invariant-loop
invariant-loop l = l.writers.items ≡ silence l.counter
