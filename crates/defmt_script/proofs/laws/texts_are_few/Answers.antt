use Rattle.defmt_script.proofs.Texts.{texts_are_few}
use Rattle.defmt_script.proofs.laws.texts_are_few.Goals as goal

pub returns : goal.returns
returns c = texts_are_few
