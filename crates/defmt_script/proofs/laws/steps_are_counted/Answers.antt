use Rattle.defmt_script.proofs.StepLaws.{steps_counted}
use Rattle.defmt_script.proofs.laws.steps_are_counted.Goals as goal

pub returns : goal.returns
returns c = steps_counted
