use Rattle.writer_threads.proofs.Passed.{means_itself}
use Rattle.defmt_steer.proofs.steer_run.run_steered.Goals as goal

pub run_hosted-requires-clause-means : goal.run_hosted-requires-clause-means
run_hosted-requires-clause-means g c κs within = means_itself (g.G.Gate.told c.args.gate.now)
