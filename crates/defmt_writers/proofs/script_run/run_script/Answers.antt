use Rattle.writer_threads.proofs.Passed.{means_itself}
use Rattle.defmt_writers.proofs.script_run.run_script.Goals as goal

pub run_named-requires-clause-lets : goal.run_named-requires-clause-lets
run_named-requires-clause-lets g c κs within = λ writer. means_itself (g.G.Gate.passed c.args.gate.now writer)

pub run_named-requires-clause-means : goal.run_named-requires-clause-means
run_named-requires-clause-means g c κs within = means_itself (g.G.Gate.told c.args.gate.now)
