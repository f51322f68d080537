use Rattle.std.proofs.Common.{ap, arith, length, sym, ◌∙◌}
use Rattle.writer_threads.proofs.Passed.{told_none}
use Rattle.defmt_writers.proofs.drain.Drain.new.Goals as goal

pub invariant_of-reader : goal.invariant_of-reader
invariant_of-reader g c = record {
  split = c.requires.split;
  got = c.requires.got.0 ∙ sym c.requires.got.1;
  lets = c.requires.lets;
  means = c.requires.means;
  told = told_none g.N.FromSplit.told 0 _ (omega (arith, ap length c.requires.got.1));
}
