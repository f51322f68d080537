use Rattle.std.proofs.Common.{◌≡◌, ◌<◌, ℕ, get_or, true}
use Rattle.defmt_shapes.specs.Runs.{in_class}
use Rattle.defmt_shapes.proofs.parts.split_run.Given as goal

abbrev pub invariant-loop-i : goal.invariant-loop-i
invariant-loop-i l = (k : ℕ) → k < l.i → in_class l.class (get_or l.text k 0) ≡ true
