use Rattle.std.proofs.Common.{length}
use Rattle.defmt_shapes.proofs.MeaningLaws.{BytesLeft}
use Rattle.defmt_shapes.proofs.meaning.bytes_of.Given as goal

abbrev pub invariant-pairs : goal.invariant-pairs
invariant-pairs l = BytesLeft l.digits l.bytes.items l.rest

abbrev pub decreases-pairs : goal.decreases-pairs
decreases-pairs l = length l.rest
