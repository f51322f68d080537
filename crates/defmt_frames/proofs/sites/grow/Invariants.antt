use Rattle.std.proofs.Common.{◌≡◌, ◌-◌, ℕ, length}
use Rattle.defmt_frames.specs.Sites.{row_at}
use Rattle.defmt_frames.proofs.sites.grow.Given as goal

abbrev pub invariant-each : goal.invariant-each
invariant-each l = (q : ℕ) → row_at l.rows.items q ≡ row_at l.fn.rows.items q

abbrev pub decreases-each : goal.decreases-each
decreases-each l = l.count - length l.rows.items
