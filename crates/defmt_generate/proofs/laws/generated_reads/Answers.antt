use Rattle.defmt_generate.proofs.Reading.{generated_reads}
use Rattle.defmt_generate.proofs.laws.generated_reads.Goals as goal

pub returns : goal.returns
returns c = generated_reads
