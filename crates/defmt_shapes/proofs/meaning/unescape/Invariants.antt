use Rattle.std.proofs.Common.{length}
use Rattle.std.specs.Str.{IsUtf8}
use Rattle.defmt_shapes.proofs.MeaningLaws.{TextLeft}
use Rattle.defmt_shapes.proofs.meaning.unescape.Given as goal

abbrev pub invariant-characters : goal.invariant-characters
invariant-characters l = record { left : TextLeft l.inside l.text l.rest; utf8 : IsUtf8 l.rest }

abbrev pub decreases-characters : goal.decreases-characters
decreases-characters l = length l.rest
