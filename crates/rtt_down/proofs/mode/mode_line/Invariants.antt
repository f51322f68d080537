use Rattle.std.proofs.Common.{◌+◌, ◌≤◌, length}
use Rattle.rtt_down.proofs.ModeLaws.{IsSearch}
use Rattle.rtt_down.proofs.mode.mode_line.Given as goal

abbrev pub invariant-loop-rest : goal.invariant-loop-rest
invariant-loop-rest l = record {
  so_far : IsSearch l.number l.rest l.text;
  number : l.number + length l.rest ≤ length l.text;
}

abbrev pub decreases-loop-rest : goal.decreases-loop-rest
decreases-loop-rest l = length l.rest
