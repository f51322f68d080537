use Rattle.defmt_forms.proofs.Runs.{Stands}
use Rattle.defmt_forms.specs.Terminal.{tame}
use Rattle.defmt_forms.proofs.tame.plain_run.Given as goal

abbrev pub invariant-loop-i : goal.invariant-loop-i
invariant-loop-i l = Stands tame l.text l.i
