use Rattle.writer_threads.proofs.Passed.{means_itself}
use Rattle.talk_threads.proofs.threads.run_threads.Goals as goal

pub run_named-requires-clause-means : goal.run_named-requires-clause-means
run_named-requires-clause-means g c κs within = λ writer. means_itself (g.G.Gate.passed c.args.gate.now writer)
