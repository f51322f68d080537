use Rattle.writer_threads.proofs.Passed.{means_itself}
use Rattle.defmt_talk.proofs.talk_run.run_terminals.Goals as goal

pub run_both-requires-clause-lets : goal.run_both-requires-clause-lets
run_both-requires-clause-lets g c κs within = λ writer. means_itself (g.G.Gate.passed c.args.gate.now writer)

pub run_both-requires-clause-means : goal.run_both-requires-clause-means
run_both-requires-clause-means g c κs within = means_itself (g.G.Gate.told c.args.gate.now)

pub run_both-requires-clause-text_lets : goal.run_both-requires-clause-text_lets
run_both-requires-clause-text_lets g c κs within = λ writer. means_itself (λ place. Unit {0})

pub run_both-requires-clause-text_means : goal.run_both-requires-clause-text_means
run_both-requires-clause-text_means g c κs within = means_itself (λ total. Unit {0})
