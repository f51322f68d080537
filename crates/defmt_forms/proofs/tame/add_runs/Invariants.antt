use Rattle.std.proofs.Common.{◌≡◌, ◌++◌, length}
use Rattle.defmt_forms.specs.Terminal.{tame}
use Rattle.defmt_forms.proofs.tame.add_runs.Given as goal

abbrev pub invariant-runs : goal.invariant-runs
invariant-runs l = l.out.items ++ tame l.rest ≡ l.fn.out.items ++ tame l.fn.text

abbrev pub decreases-runs : goal.decreases-runs
decreases-runs l = length l.rest
