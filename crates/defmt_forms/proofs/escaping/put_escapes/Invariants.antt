use Rattle.std.proofs.Common.{length}
use Rattle.defmt_forms.proofs.Placed.{Escaped}
use Rattle.defmt_forms.proofs.escaping.put_escapes.Given as goal

abbrev pub invariant-bytes : goal.invariant-bytes
invariant-bytes l = Escaped l.fn.text l.at l.text l.end l.from l.rest

abbrev pub decreases-bytes : goal.decreases-bytes
decreases-bytes l = length l.rest
