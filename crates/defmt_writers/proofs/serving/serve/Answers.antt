use Rattle.writer_threads.proofs.Passed.{means_itself}
use Rattle.defmt_writers.proofs.serving.serve.Goals as goal

pub serve_named-requires-clause-means : goal.serve_named-requires-clause-means
serve_named-requires-clause-means g c = means_itself (g.G.Gate.told c.args.gate.now)
