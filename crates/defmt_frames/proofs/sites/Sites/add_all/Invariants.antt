use Rattle.std.proofs.Common.{◌≡◌, ℕ, ◌<◌, Some, IsSome, slice_get}
use Rattle.defmt_script.specs.Script.{statements_by}
use Rattle.defmt_frames.specs.Sites.{AreSitesOf, Keeps, site_at}
use Rattle.defmt_frames.proofs.sites.Sites.add_all.Given as goal
use Rattle.defmt_values.specs.declared.value.Statement.{Statement}

abbrev pub invariant-loop-place : goal.invariant-loop-place
invariant-loop-place l = AreSitesOf l.script.table l.self × Keeps l.fn.self l.self
    × ((k : ℕ) → k < l.place → (stm : Statement) → slice_get (statements_by l.script l.writer) k ≡ Some stm → IsSome (site_at l.self stm.index))
