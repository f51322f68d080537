use Rattle.std.proofs.Common.{ℕ, ◌<◌}
use Rattle.defmt_script.specs.Script.{statements_by}
use Rattle.defmt_frames.specs.Sites.{AreSitesOf, HaveSites}
use Rattle.defmt_frames.proofs.sites.Sites.of.Given as goal

abbrev pub invariant-loop-writer : goal.invariant-loop-writer
invariant-loop-writer l = AreSitesOf l.script.table l.sites × ((v : ℕ) → v < l.writer → HaveSites l.sites (statements_by l.script v))
