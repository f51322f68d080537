use Rattle.std.proofs.Common.{◌≡◌, ◌≤◌, length}
use Rattle.defmt_intern.specs.Table.{kept_in}
use Rattle.defmt_intern.proofs.keeping.last_kept.Given as goal

abbrev pub invariant-each : goal.invariant-each
invariant-each l = (kept_in l.rest ≡ kept_in l.slots) × (length l.rest ≤ 65536)

abbrev pub decreases-each : goal.decreases-each
decreases-each l = length l.rest
