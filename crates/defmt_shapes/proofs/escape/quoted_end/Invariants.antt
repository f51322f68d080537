use Rattle.std.proofs.Common.{◌≤◌, length}
use Rattle.std.specs.Str.{IsUtf8}
use Rattle.defmt_shapes.specs.Escapes.{InQuotes}
use Rattle.defmt_shapes.proofs.escape.quoted_end.Given as goal

abbrev pub invariant-characters : goal.invariant-characters
invariant-characters l = record { quotes : InQuotes l.text l.rest; utf8 : IsUtf8 l.rest; within : length l.rest ≤ length l.text }

abbrev pub decreases-characters : goal.decreases-characters
decreases-characters l = length l.rest
