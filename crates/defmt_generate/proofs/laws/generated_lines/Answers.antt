use Rattle.defmt_generate.proofs.Lines.{generated_lines}
use Rattle.defmt_generate.proofs.laws.generated_lines.Goals as goal

pub returns : goal.returns
returns c = generated_lines
