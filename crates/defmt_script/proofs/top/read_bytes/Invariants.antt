use Rattle.std.proofs.Common.{◌+◌, ◌≤◌, length}
use Rattle.defmt_script.proofs.ReadingLaws.{IsReading}
use Rattle.defmt_script.proofs.top.read_bytes.Given as goal

abbrev pub invariant-loop-rest : goal.invariant-loop-rest
invariant-loop-rest l = record {
  reading : IsReading l.reading l.number l.rest l.text;
  number : l.number + length l.rest ≤ length l.text;
}

abbrev pub decreases-loop-rest : goal.decreases-loop-rest
decreases-loop-rest l = length l.rest
