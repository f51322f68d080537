use Rattle.std.proofs.Common.{◌≡◌, ◌+◌, length}
use Rattle.rtt_dump.proofs.KeptLaws.{IsKept}
use Rattle.rtt_dump.proofs.ids.kept_places.Given as goal

abbrev pub invariant-loop-gap : goal.invariant-loop-gap
invariant-loop-gap l = record {
  kept : IsKept l.starts l.file l.places.items l.rest l.at l.before l.last;
  end : l.at + length l.rest ≡ length l.file;
}

abbrev pub decreases-loop-gap : goal.decreases-loop-gap
decreases-loop-gap l = length l.rest
