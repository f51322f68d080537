use Rattle.std.proofs.Common.{refl}
use Rattle.defmt_run.proofs.running.outcome_of_writing.Goals as goal

pub returns-clause-same : goal.returns-clause-same
returns-clause-same g c = refl
