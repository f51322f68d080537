use Rattle.std.proofs.Common.{inl, refl}
use Rattle.defmt_run.proofs.running.write.Goals as goal

pub returns-in-Ok-clause-written : goal.returns-in-Ok-clause-written
returns-in-Ok-clause-written g c = inl (refl, c.in-Ok.ensures.ok)
