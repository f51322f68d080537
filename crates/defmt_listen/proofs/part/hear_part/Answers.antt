use Rattle.std.proofs.Common.{refl, sym, ◌∙◌, arith}
use Rattle.std.proofs.lemmas.Bool.{eqb-true}
use Rattle.defmt_listen.specs.Gathered.{gathered}
use Rattle.defmt_listen.specs.Streams.{output_of}
use Rattle.defmt_listen.proofs.Fronts.{on_err}
use Rattle.defmt_listen.proofs.Hearing.{start, more_next, writes, stops, stands_still, ends, some_left}
use Rattle.defmt_listen.proofs.part.hear_part.Goals as goal

pub parts-init : goal.parts-init
parts-init g c = record {
  hearing = start (g.L.Listener.tells c.args.listener.now) g.R.Reporter.reporting c.args.reporter.now (g.L.Listener.framing c.args.listener.now) c.args.bytes.now (g.K.Sink.held c.args.out.now) c.args.report.now.faults (gathered c.args.report.now) c.requires.empty;
  within = c.requires.within;
  same = refl;
  later = omega arith;
}

pub returns-in_err-write_lines-clause-some : goal.returns-in_err-write_lines-clause-some
returns-in_err-write_lines-clause-some g c =
    on_err c.from_residual-in_err-write_lines.result (stops (g.L.Listener.tells c.args.listener.now) g.R.Reporter.reporting c.args.reporter.now (g.L.Listener.framing c.args.listener.now) c.args.bytes.now
    (output_of g.K.Sink.held g.K.Sink.faults c.args.out.now c.write_lines.new.out) c.args.report.now.faults
    c.parts.reporter (g.L.Listener.framing c.parts.listener) c.parts.rest.now (g.K.Sink.held c.parts.out) (gathered c.parts.report) c.parts.report.faults
    c.parts.invariant.hearing c.in_err-write_lines.ensures.front)

pub returns-clause-heard : goal.returns-clause-heard
returns-clause-heard g c =
    rw c.write_lines.ensures.faults (ends (g.L.Listener.tells c.args.listener.now) g.R.Reporter.reporting c.args.reporter.now (g.L.Listener.framing c.args.listener.now) c.args.bytes.now
    (output_of g.K.Sink.held g.K.Sink.faults c.args.out.now c.write_lines.new.out) c.args.report.now.faults
    c.parts.reporter (g.L.Listener.framing c.parts.listener) c.parts.rest.now (g.K.Sink.held c.parts.out) (gathered c.parts.report) c.parts.report.faults
    c.parts.invariant.hearing (eqb-true _ 0 (sym c.is_empty.ensures ∙ c.parts-test.false)) c.in_ok-write_lines.ensures.ok)

pub returns-clause-few : goal.returns-clause-few
returns-clause-few g c = omega (arith, c.write_lines.ensures.faults, c.parts.invariant.hearing.fits)

pub hear_next-requires-clause-some : goal.hear_next-requires-clause-some
hear_next-requires-clause-some g c = some_left c.parts.rest.now _ c.is_empty.ensures c.parts-test.true

pub hear_next-requires-clause-room : goal.hear_next-requires-clause-room
hear_next-requires-clause-room g c = omega (arith, c.requires.few, c.parts.invariant.hearing.fits, some_left c.parts.rest.now _ c.is_empty.ensures c.parts-test.true)

pub split_at-requires : goal.split_at-requires
split_at-requires g c = c.in_ok-taken.ensures.next.within

pub returns-in_err-taken-clause-some : goal.returns-in_err-taken-clause-some
returns-in_err-taken-clause-some g c =
    on_err c.from_residual.result (stands_still (g.L.Listener.tells c.args.listener.now) g.R.Reporter.reporting c.args.reporter.now (g.L.Listener.framing c.args.listener.now) c.args.bytes.now
    (output_of g.K.Sink.held g.K.Sink.faults c.args.out.now c.parts.out) c.args.report.now.faults
    c.parts.reporter (g.L.Listener.framing c.parts.listener) c.parts.rest.now (gathered c.parts.report) c.parts.report.faults c.parts.invariant.hearing)

pub parts-preserved : goal.parts-preserved
parts-preserved g c =
    let one = more_next (g.L.Listener.tells c.args.listener.now) g.R.Reporter.reporting c.args.reporter.now (g.L.Listener.framing c.args.listener.now) c.args.bytes.now (g.K.Sink.held c.args.out.now) c.args.report.now.faults
    c.parts.invariant.hearing c.in_ok-taken.ensures.next c.parts.invariant.same c.split_at.ensures.back (some_left c.parts.rest.now _ c.is_empty.ensures c.parts-test.true) in
    let wrote = c.in_ok-write_gathered.ensures.ok in
    record {
      hearing = rw c.write_gathered.ensures.faults (writes (g.L.Listener.tells c.args.listener.now) g.R.Reporter.reporting c.args.reporter.now (g.L.Listener.framing c.args.listener.now) c.args.bytes.now (g.K.Sink.held c.args.out.now) c.args.report.now.faults c.hear_next.new.reporter (g.L.Listener.framing c.hear_next.new.listener) c.split_at.result.1.now
          (g.K.Sink.held c.parts.out) (g.K.Sink.held c.write_gathered.new.out) (gathered c.hear_next.new.report) (gathered c.write_gathered.new.report) wrote.0 c.hear_next.new.report.faults one wrote.1 wrote.2);
      within = c.in_ok-write_gathered.ensures.within;
      same = c.in_ok-taken.ensures.same ∙ c.parts.invariant.same;
      later = omega (arith, c.write_gathered.ensures.later, c.parts.invariant.later);
    }

pub returns-in_err-write_gathered-clause-some : goal.returns-in_err-write_gathered-clause-some
returns-in_err-write_gathered-clause-some g c =
    let one = more_next (g.L.Listener.tells c.args.listener.now) g.R.Reporter.reporting c.args.reporter.now (g.L.Listener.framing c.args.listener.now) c.args.bytes.now (g.K.Sink.held c.args.out.now) c.args.report.now.faults
    c.parts.invariant.hearing c.in_ok-taken.ensures.next c.parts.invariant.same c.split_at.ensures.back (some_left c.parts.rest.now _ c.is_empty.ensures c.parts-test.true) in
    on_err c.from_residual-in_err-write_gathered.result (stops (g.L.Listener.tells c.args.listener.now) g.R.Reporter.reporting c.args.reporter.now (g.L.Listener.framing c.args.listener.now) c.args.bytes.now
    (output_of g.K.Sink.held g.K.Sink.faults c.args.out.now c.write_gathered.new.out) c.args.report.now.faults
    c.hear_next.new.reporter (g.L.Listener.framing c.hear_next.new.listener) c.split_at.result.1.now (g.K.Sink.held c.parts.out) (gathered c.hear_next.new.report) c.hear_next.new.report.faults one c.in_err-write_gathered.ensures.front)
