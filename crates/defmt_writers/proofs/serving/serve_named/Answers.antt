use Rattle.std.proofs.Common.{ap, arith, length}
use Rattle.dl_io.specs.Buffer.{Buffer}
use Rattle.writer_threads.proofs.Passed.{told_none}
use Rattle.defmt_writers.proofs.Taken.{was_told_takes}
use Rattle.defmt_writers.proofs.serving.serve_named.Goals as goal

pub invariant_of-serving : goal.invariant_of-serving
invariant_of-serving g c = record {
  means = c.requires.means;
  told = told_none g.N.Lent.told _ _ (omega (arith, ap (λ (b : Buffer). length b.items) c.requires.before.1));
}

pub returns-clause-told : goal.returns-clause-told
returns-clause-told g c =
    was_told_takes g.N.Lent.told (g.G.Gate.told c.args.gate.now) _ _ _ _ _ 0 c.requires.means c.take_all.ensures.takes c.log_all.new.relief.told ∣ c.take_all.ensures.told ∣₁
