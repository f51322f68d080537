use Rattle.std.proofs.Common.{◌≡◌, ◌≤◌, ◌<◌, ◌+◌, ◌-◌, [], length}
use Rattle.std.specs.Io.KnownBytes.{prepend_known}
use Rattle.defmt_listen.specs.Gathered.{gathered, IsGathered}
use Rattle.defmt_listen.proofs.Wholes.{Listening}
use Rattle.defmt_listen.proofs.listening.listen_by.Given as goal

abbrev pub invariant-parts : goal.invariant-parts
invariant-parts g l = record {
  listening : Listening (record { tells = g.L.Listener.tells l.fn.listener; reporting = g.R.Reporter.reporting; start = l.fn.reporter; limit = l.fn.limit }) l.reporter
      (g.L.Listener.framing l.listener) (g.S.Turns.left l.fn.src) (prepend_known (g.C.Crew.ahead l.crew) (g.S.Turns.left l.src))
      (g.K.Sink.held l.fn.out) (g.K.Sink.held l.out) l.taken l.report.faults;
  within : IsGathered l.report;
  empty : gathered l.report ≡ [];
  room : 0 < length l.buf.items;
  ahead : l.taken + length (g.C.Crew.ahead l.crew) ≤ l.fn.limit;
  known : g.C.Crew.knows (g.S.Turns.faults l.fn.src) l.crew l.src;
  suits : g.C.Crew.suits l.crew l.listener l.reporter;
  same : g.L.Listener.tells l.listener ≡ g.L.Listener.tells l.fn.listener;
  source_later : g.S.Turns.faults l.fn.src ≤ g.S.Turns.faults l.src;
  sink_later : g.K.Sink.faults l.fn.out ≤ g.K.Sink.faults l.out;
}

abbrev pub decreases-parts : goal.decreases-parts
decreases-parts g l = l.fn.limit - l.taken
