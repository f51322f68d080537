use Rattle.defmt_generate.proofs.Lengths.{generated_short}
use Rattle.defmt_generate.proofs.laws.scripts_are_short.Goals as goal

pub returns : goal.returns
returns c = generated_short
