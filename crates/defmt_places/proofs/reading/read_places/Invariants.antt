use Rattle.std.proofs.Common.{◌≡◌, ◌≤◌, ◌+◌, length}
use Rattle.std.specs.Str.Lines.{lines}
use Rattle.defmt_places.specs.Places.{places_in, with_lines}
use Rattle.defmt_places.proofs.reading.read_places.Given as goal

abbrev pub invariant-lines : goal.invariant-lines
invariant-lines l = record {
  same : with_lines (l.number + 1) l.places (lines l.rest) ≡ places_in l.file;
  few : l.number + length l.rest ≤ length l.file;
}

abbrev pub decreases-lines : goal.decreases-lines
decreases-lines l = length l.rest
