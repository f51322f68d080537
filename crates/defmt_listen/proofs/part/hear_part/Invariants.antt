use Rattle.std.proofs.Common.{◌≡◌, ◌≤◌, length}
use Rattle.defmt_listen.specs.Gathered.{gathered, IsGathered}
use Rattle.defmt_listen.proofs.Hearing.{Hearing}
use Rattle.defmt_listen.proofs.part.hear_part.Given as goal

abbrev pub invariant-parts : goal.invariant-parts
invariant-parts g l = record {
  hearing : Hearing (g.L.Listener.tells l.fn.listener) g.R.Reporter.reporting l.fn.reporter l.reporter
      (g.L.Listener.framing l.fn.listener) (g.L.Listener.framing l.listener) l.bytes l.rest
      (g.K.Sink.held l.fn.out) (g.K.Sink.held l.out) (gathered l.report) l.fn.report.faults l.report.faults;
  within : IsGathered l.report;
  same : g.L.Listener.tells l.listener ≡ g.L.Listener.tells l.fn.listener;
  later : g.K.Sink.faults l.fn.out ≤ g.K.Sink.faults l.out;
}

abbrev pub decreases-parts : goal.decreases-parts
decreases-parts g l = length l.rest
