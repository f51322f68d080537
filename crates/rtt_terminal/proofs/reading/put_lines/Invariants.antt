use Rattle.std.proofs.Common.{length}
use Rattle.rtt_terminal.proofs.ReadingLaws.{Progress}
use Rattle.rtt_terminal.proofs.reading.put_lines.Given as goal

abbrev pub invariant-items : goal.invariant-items
invariant-items l = Progress l.bytes l.shown l.current l.rest

abbrev pub decreases-items : goal.decreases-items
decreases-items l = length l.rest
