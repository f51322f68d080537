use Rattle.std.proofs.Common.{◌-◌, ◌≤◌}
use Rattle.writer_threads.specs.Passing.{PassedAll}
use Rattle.talk_threads.proofs.talking.log_before.Given as goal

abbrev pub invariant-loop-pen : goal.invariant-loop-pen
invariant-loop-pen g l = record {
  forth : l.fn.pen.place ≤ l.pen.place;
  asked : PassedAll (g.G.Gate.passed l.gate g.S.Writer.NUMBER) l.fn.pen.place l.pen.place;
  relief : g.R.Relief.kept l.relief;
}

abbrev pub decreases-loop-pen : goal.decreases-loop-pen
decreases-loop-pen g l = l.pen.total - l.pen.place
