use Rattle.defmt_forms.proofs.Runs.{Stands}
use Rattle.json.specs.Print.{escape}
use Rattle.defmt_forms.proofs.quoted.plain_run.Given as goal

abbrev pub invariant-loop-i : goal.invariant-loop-i
invariant-loop-i l = Stands escape l.text l.i
