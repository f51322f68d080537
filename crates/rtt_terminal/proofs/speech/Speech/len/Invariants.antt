use Rattle.std.proofs.Common.{◌≡◌, take}
use Rattle.rtt_terminal.specs.Speech.{count_texts}
use Rattle.rtt_terminal.proofs.speech.Speech.len.Given as goal

abbrev pub invariant-loop-writer : goal.invariant-loop-writer
invariant-loop-writer l = l.count ≡ count_texts (take l.writer l.self)
