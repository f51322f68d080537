use Rattle.std.proofs.Common.{◌≡◌, false}
use Rattle.writer_threads.proofs.writers.ease_on.Given as goal

abbrev pub invariant-loop : goal.invariant-loop
invariant-loop g l = record {
  kept : g.R.Relief.kept l.relief;
  same : l.eases ≡ false → l.relief ≡ l.fn.relief;
}
