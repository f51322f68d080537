use Rattle.defmt_script.proofs.LawfulLaws.{scripts_are_lawful}
use Rattle.defmt_script.proofs.laws.scripts_are_lawful.Goals as goal

pub returns : goal.returns
returns c = scripts_are_lawful
