use Rattle.defmt_run.proofs.running.read_input.Goals as goal

pub returns-in-Ok-clause-withheld : goal.returns-in-Ok-clause-withheld
returns-in-Ok-clause-withheld g c = tt
