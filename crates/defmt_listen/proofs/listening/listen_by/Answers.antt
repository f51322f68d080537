use Rattle.std.proofs.Common.{◌≡◌, ◌≤◌, ◌+◌, ◌++◌, ℕ, List, [], length, take, refl, sym, ◌∙◌, ap, subst, arith, length-append, length-take}
use Rattle.std.specs.Io.KnownBytes.{Consumes, prepend_known}
use Rattle.std.specs.Prelude.{Option, option_to_list}
use Rattle.defmt_framing.specs.Told.{events, begun}
use Rattle.defmt_framing.specs.Framing.{Stands}
use Rattle.defmt_listen.specs.Gathered.{gathered}
use Rattle.defmt_listen.specs.Streams.{Input, Output, input_of, output_of}
use Rattle.defmt_listen.specs.Heard.{Reports, HeardSome, HeardFront, Breaks, IsDrained, IsMet, lines_from}
use Rattle.defmt_listen.specs.declared.fault.ListenFault.TheVariants.{Memory}
use Rattle.defmt_listen.proofs.Fronts.{if_err}
use Rattle.defmt_listen.proofs.Wholes.{Listening, start, front_more, part, whole, last_front, no_last, untouched, breaks_behind, breaks_memory, breaks_sink, breaks_part, breaks_long, consumes_ahead, drained, some_ahead}
use Rattle.defmt_listen.proofs.listening.listen_by.Goals as goal

pub returns-in_err-buf-clause-breaks : goal.returns-in_err-buf-clause-breaks
returns-in_err-buf-clause-breaks g c =
    let r : Reports g.row.R.Denot g.row.L-Event.Denot = record { tells = g.L.Listener.tells c.args.listener; reporting = g.R.Reporter.reporting; start = c.args.reporter; limit = c.args.limit } in
    let input : Input = input_of g.S.Turns.left g.S.Turns.faults c.args.src.now c.args.src.now in
    let output : Output = output_of g.K.Sink.held g.K.Sink.faults c.args.out.now c.args.out.now in
    if_err (Breaks r input output)
    c.from_residual.result Memory c.from_residual.ensures.1
    (untouched r input output)

pub parts-init : goal.parts-init
parts-init g c = record {
  listening = (
      let r : Reports g.row.R.Denot g.row.L-Event.Denot = record { tells = g.L.Listener.tells c.args.listener; reporting = g.R.Reporter.reporting; start = c.args.reporter; limit = c.args.limit } in
      subst (λ (n : ℕ). Listening r c.args.reporter (g.L.Listener.framing c.args.listener) (g.S.Turns.left c.args.src.now) (prepend_known (g.C.Crew.ahead c.args.crew.now) (g.S.Turns.left c.args.src.now)) (g.K.Sink.held c.args.out.now) (g.K.Sink.held c.args.out.now) 0 n)
      (sym c.new-report.ensures.none) (subst (λ (left : Option (List ℕ)). Listening r c.args.reporter (g.L.Listener.framing c.args.listener) (g.S.Turns.left c.args.src.now) left (g.K.Sink.held c.args.out.now) (g.K.Sink.held c.args.out.now) 0 0)
      (sym (drained (g.C.Crew.ahead c.args.crew.now) (g.S.Turns.left c.args.src.now) c.requires.ahead)) (start r (g.S.Turns.left c.args.src.now) (g.K.Sink.held c.args.out.now) (g.L.Listener.framing c.args.listener) c.requires.stands))
      );
  within = c.new-report.ensures.within;
  empty = c.new-report.ensures.empty;
  room = c.in_ok-buf.ensures;
  ahead = omega (arith, ap length c.requires.ahead);
  known = c.requires.known;
  suits = c.requires.suits;
  same = refl;
  source_later = omega arith;
  sink_later = omega arith;
}

pub next_part-requires-clause-turn : goal.next_part-requires-clause-turn
next_part-requires-clause-turn g c = λ none.
    let so = c.parts.invariant.listening in
    c.requires.turns so.bytes c.parts.src c.parts.out
    (subst (λ (left : Option (List ℕ)). Consumes (g.S.Turns.left c.args.src.now) left so.bytes) (drained (g.C.Crew.ahead c.parts.crew) (g.S.Turns.left c.parts.src) none) so.took) so.written

pub returns-in_err-part-clause-breaks : goal.returns-in_err-part-clause-breaks
returns-in_err-part-clause-breaks g c =
    let r : Reports g.row.R.Denot g.row.L-Event.Denot = record { tells = g.L.Listener.tells c.args.listener; reporting = g.R.Reporter.reporting; start = c.args.reporter; limit = c.args.limit } in
    let input : Input = input_of g.S.Turns.left g.S.Turns.faults c.args.src.now c.next_part.new.src in
    let output : Output = output_of g.K.Sink.held g.K.Sink.faults c.args.out.now c.parts.out in
    if_err (Breaks r input output)
    c.from_residual-in_err-part.result c.in_err-part.field-0.0 c.from_residual-in_err-part.ensures.1
    (breaks_long r input output c.parts.reporter (g.L.Listener.framing c.parts.listener) (prepend_known (g.C.Crew.ahead c.parts.crew) (g.S.Turns.left c.parts.src))
    c.parts.taken c.parts.report.faults c.in_err-part.field-0.0 c.in_err-part.ensures.long.0 c.parts.invariant.listening c.in_err-part.ensures.long.1 c.in_err-part.ensures.long.2)

pub returns-in_err-hear-clause-breaks : goal.returns-in_err-hear-clause-breaks
returns-in_err-hear-clause-breaks g c =
    let r : Reports g.row.R.Denot g.row.L-Event.Denot = record { tells = g.L.Listener.tells c.args.listener; reporting = g.R.Reporter.reporting; start = c.args.reporter; limit = c.args.limit } in
    let input : Input = input_of g.S.Turns.left g.S.Turns.faults c.args.src.now c.next_part.new.src in
    let output : Output = output_of g.K.Sink.held g.K.Sink.faults c.args.out.now c.hear.new.out in
    let between : Output = output_of g.K.Sink.held g.K.Sink.faults c.parts.out c.hear.new.out in
    let bytes : List ℕ = take c.in_ok-part.part.count c.next_part.new.buf.items in
    let whole_is : c.deref.result.now ≡ c.next_part.new.buf.items = c.deref.ensures.value in
    let part_is : take c.in_ok-part.part.count c.deref.result.now ≡ bytes = ap (take c.in_ok-part.part.count) whole_is in
    let ahead : List ℕ = g.C.Crew.ahead c.next_part.new.crew in
    let fits : c.parts.taken + length (bytes ++ ahead) ≤ c.args.limit =
    omega (arith, length-append bytes ahead, length-take c.in_ok-part.part.count c.next_part.new.buf.items, c.in_ok-part.ensures.within.0, c.in_ok-part.ensures.within.1) in
    let front : HeardFront r input output =
    part r input output c.parts.reporter (g.L.Listener.framing c.parts.listener) (prepend_known (g.C.Crew.ahead c.parts.crew) (g.S.Turns.left c.parts.src)) c.parts.taken c.parts.report.faults
    (g.K.Sink.held c.parts.out) c.parts.invariant.listening (g.K.Sink.faults c.parts.out) (bytes ++ ahead) (consumes_ahead (prepend_known (g.C.Crew.ahead c.parts.crew) (g.S.Turns.left c.parts.src)) (g.S.Turns.left c.next_part.new.src) bytes ahead c.in_ok-part.ensures.bytes) fits
    (λ stream st. some_ahead ahead (subst (λ tells. HeardSome tells g.R.Reporter.reporting c.parts.reporter between stream bytes)
    c.parts.invariant.same (subst (λ (l : List ℕ). HeardSome (g.L.Listener.tells c.parts.listener) g.R.Reporter.reporting c.parts.reporter between stream l) part_is (c.in_err-hear.ensures.some stream st)))) in
    if_err (Breaks r input output)
    c.from_residual-in_err-hear.result c.in_err-hear.field-0.0 c.from_residual-in_err-hear.ensures.1
    (breaks_part r input output
    (g.K.Sink.faults c.parts.out) c.in_err-hear.field-0.0 c.in_err-hear.ensures.fault front c.parts.invariant.sink_later)

pub parts-preserved : goal.parts-preserved
parts-preserved g c =
    let r : Reports g.row.R.Denot g.row.L-Event.Denot = record { tells = g.L.Listener.tells c.args.listener; reporting = g.R.Reporter.reporting; start = c.args.reporter; limit = c.args.limit } in
    let between : Output = output_of g.K.Sink.held g.K.Sink.faults c.parts.out c.hear.new.out in
    let whole_is : c.deref.result.now ≡ c.next_part.new.buf.items = c.deref.ensures.value in
    let so : Listening r c.hear.new.reporter (g.L.Listener.framing c.hear.new.listener) (g.S.Turns.left c.args.src.now) (prepend_known (g.C.Crew.ahead c.next_part.new.crew) (g.S.Turns.left c.next_part.new.src)) (g.K.Sink.held c.args.out.now) (g.K.Sink.held c.hear.new.out)
    (c.parts.taken + c.in_ok-part.part.count) c.hear.new.report.faults =
    front_more r (g.S.Turns.left c.args.src.now) (g.K.Sink.held c.args.out.now) c.parts.reporter c.hear.new.reporter (g.L.Listener.framing c.parts.listener) (g.L.Listener.framing c.hear.new.listener)
    (prepend_known (g.C.Crew.ahead c.parts.crew) (g.S.Turns.left c.parts.src)) (prepend_known (g.C.Crew.ahead c.next_part.new.crew) (g.S.Turns.left c.next_part.new.src)) between c.parts.taken c.parts.report.faults c.hear.new.report.faults c.in_ok-part.part.count c.next_part.new.buf.items c.deref.result.now
    (g.L.Listener.tells c.parts.listener) c.parts.invariant.same whole_is c.in_ok-part.ensures.within.0 (omega (arith, c.in_ok-part.ensures.within.1))
    c.parts.invariant.listening c.in_ok-part.ensures.bytes c.in_ok-hear.ensures.heard c.in_ok-hear.ensures.few in
    record {
      listening = subst (λ (ahead : List ℕ). Listening r c.hear.new.reporter (g.L.Listener.framing c.hear.new.listener) (g.S.Turns.left c.args.src.now) (prepend_known ahead (g.S.Turns.left c.next_part.new.src)) (g.K.Sink.held c.args.out.now) (g.K.Sink.held c.hear.new.out)
          (c.parts.taken + c.in_ok-part.part.count) c.hear.new.report.faults) (sym c.in_ok-hear.ensures.ahead) so;
      within = c.in_ok-hear.ensures.within;
      empty = c.in_ok-hear.ensures.empty;
      room = omega (arith, c.widen.ensures, c.in_ok-part.ensures.buffer);
      ahead = omega (arith, ap length c.in_ok-hear.ensures.ahead, c.in_ok-part.ensures.within.1);
      known = c.in_ok-hear.ensures.known (g.S.Turns.faults c.args.src.now) c.next_part.new.src (c.in_ok-part.ensures.known (g.S.Turns.faults c.args.src.now) c.parts.invariant.known).0;
      suits = c.in_ok-hear.ensures.suits;
      same = c.in_ok-hear.ensures.same ∙ c.parts.invariant.same;
      source_later = omega (arith, c.next_part.ensures.later, c.parts.invariant.source_later);
      sink_later = omega (arith, c.hear.ensures.later, c.parts.invariant.sink_later);
    }

pub returns-in-Fault-clause-breaks : goal.returns-in-Fault-clause-breaks
returns-in-Fault-clause-breaks g c =
    let r : Reports g.row.R.Denot g.row.L-Event.Denot = record { tells = g.L.Listener.tells c.args.listener; reporting = g.R.Reporter.reporting; start = c.args.reporter; limit = c.args.limit } in
    let input : Input = input_of g.S.Turns.left g.S.Turns.faults c.args.src.now c.next_part.new.src in
    let output : Output = output_of g.K.Sink.held g.K.Sink.faults c.args.out.now c.hear.new.out in
    let between : Output = output_of g.K.Sink.held g.K.Sink.faults c.parts.out c.hear.new.out in
    let whole_is : c.deref.result.now ≡ c.next_part.new.buf.items = c.deref.ensures.value in
    let so_ahead : Listening r c.hear.new.reporter (g.L.Listener.framing c.hear.new.listener) (g.S.Turns.left c.args.src.now) (prepend_known (g.C.Crew.ahead c.next_part.new.crew) (g.S.Turns.left c.next_part.new.src)) (g.K.Sink.held c.args.out.now) (g.K.Sink.held c.hear.new.out)
    (c.parts.taken + c.in_ok-part.part.count) c.hear.new.report.faults =
    front_more r (g.S.Turns.left c.args.src.now) (g.K.Sink.held c.args.out.now) c.parts.reporter c.hear.new.reporter (g.L.Listener.framing c.parts.listener) (g.L.Listener.framing c.hear.new.listener)
    (prepend_known (g.C.Crew.ahead c.parts.crew) (g.S.Turns.left c.parts.src)) (prepend_known (g.C.Crew.ahead c.next_part.new.crew) (g.S.Turns.left c.next_part.new.src)) between c.parts.taken c.parts.report.faults c.hear.new.report.faults c.in_ok-part.part.count c.next_part.new.buf.items c.deref.result.now
    (g.L.Listener.tells c.parts.listener) c.parts.invariant.same whole_is c.in_ok-part.ensures.within.0 (omega (arith, c.in_ok-part.ensures.within.1))
    c.parts.invariant.listening c.in_ok-part.ensures.bytes c.in_ok-hear.ensures.heard c.in_ok-hear.ensures.few in
    let none : g.C.Crew.ahead c.next_part.new.crew ≡ [] = subst (IsDrained (g.C.Crew.ahead c.next_part.new.crew)) c.in-Fault.is c.in_ok-part.ensures.drained in
    let so : Listening r c.hear.new.reporter (g.L.Listener.framing c.hear.new.listener) (g.S.Turns.left c.args.src.now) (g.S.Turns.left c.next_part.new.src) (g.K.Sink.held c.args.out.now) (g.K.Sink.held c.hear.new.out)
    (c.parts.taken + c.in_ok-part.part.count) c.hear.new.report.faults =
    subst (λ (left : Option (List ℕ)). Listening r c.hear.new.reporter (g.L.Listener.framing c.hear.new.listener) (g.S.Turns.left c.args.src.now) left (g.K.Sink.held c.args.out.now) (g.K.Sink.held c.hear.new.out)
    (c.parts.taken + c.in_ok-part.part.count) c.hear.new.report.faults) (drained (g.C.Crew.ahead c.next_part.new.crew) (g.S.Turns.left c.next_part.new.src) none) so_ahead in
    breaks_behind r input output c.hear.new.reporter (g.L.Listener.framing c.hear.new.listener) (c.parts.taken + c.in_ok-part.part.count) c.hear.new.report.faults so
    (subst (IsMet (g.S.Turns.faults c.args.src.now) (g.S.Turns.left c.next_part.new.src) (g.S.Turns.faults c.next_part.new.src)) c.in-Fault.is (c.in_ok-part.ensures.known (g.S.Turns.faults c.args.src.now) c.parts.invariant.known).1)

pub returns-in_err-add_told-clause-breaks : goal.returns-in_err-add_told-clause-breaks
returns-in_err-add_told-clause-breaks g c =
    let r : Reports g.row.R.Denot g.row.L-Event.Denot = record { tells = g.L.Listener.tells c.args.listener; reporting = g.R.Reporter.reporting; start = c.args.reporter; limit = c.args.limit } in
    let input : Input = input_of g.S.Turns.left g.S.Turns.faults c.args.src.now c.next_part.new.src in
    let output : Output = output_of g.K.Sink.held g.K.Sink.faults c.args.out.now c.hear.new.out in
    let end = subst (IsMet (g.S.Turns.faults c.args.src.now) (g.S.Turns.left c.next_part.new.src) (g.S.Turns.faults c.next_part.new.src)) c.in-End.is (c.in_ok-part.ensures.known (g.S.Turns.faults c.args.src.now) c.parts.invariant.known).1 in
    let finishes : (stream : List ℕ) → Stands (g.L.Listener.framing c.hear.new.listener) stream → events r.tells stream ≡ begun r.tells stream ++ option_to_list c.finish.result =
    λ stream st. subst (λ tells. events tells stream ≡ begun tells stream ++ option_to_list c.finish.result) (c.in_ok-hear.ensures.same ∙ c.parts.invariant.same) (c.finish.ensures stream st) in
    let between : Output = output_of g.K.Sink.held g.K.Sink.faults c.parts.out c.hear.new.out in
    let whole_is : c.deref.result.now ≡ c.next_part.new.buf.items = c.deref.ensures.value in
    let so_ahead : Listening r c.hear.new.reporter (g.L.Listener.framing c.hear.new.listener) (g.S.Turns.left c.args.src.now) (prepend_known (g.C.Crew.ahead c.next_part.new.crew) (g.S.Turns.left c.next_part.new.src)) (g.K.Sink.held c.args.out.now) (g.K.Sink.held c.hear.new.out)
    (c.parts.taken + c.in_ok-part.part.count) c.hear.new.report.faults =
    front_more r (g.S.Turns.left c.args.src.now) (g.K.Sink.held c.args.out.now) c.parts.reporter c.hear.new.reporter (g.L.Listener.framing c.parts.listener) (g.L.Listener.framing c.hear.new.listener)
    (prepend_known (g.C.Crew.ahead c.parts.crew) (g.S.Turns.left c.parts.src)) (prepend_known (g.C.Crew.ahead c.next_part.new.crew) (g.S.Turns.left c.next_part.new.src)) between c.parts.taken c.parts.report.faults c.hear.new.report.faults c.in_ok-part.part.count c.next_part.new.buf.items c.deref.result.now
    (g.L.Listener.tells c.parts.listener) c.parts.invariant.same whole_is c.in_ok-part.ensures.within.0 (omega (arith, c.in_ok-part.ensures.within.1))
    c.parts.invariant.listening c.in_ok-part.ensures.bytes c.in_ok-hear.ensures.heard c.in_ok-hear.ensures.few in
    let none : g.C.Crew.ahead c.next_part.new.crew ≡ [] = subst (IsDrained (g.C.Crew.ahead c.next_part.new.crew)) c.in-End.is c.in_ok-part.ensures.drained in
    let so : Listening r c.hear.new.reporter (g.L.Listener.framing c.hear.new.listener) (g.S.Turns.left c.args.src.now) (g.S.Turns.left c.next_part.new.src) (g.K.Sink.held c.args.out.now) (g.K.Sink.held c.hear.new.out)
    (c.parts.taken + c.in_ok-part.part.count) c.hear.new.report.faults =
    subst (λ (left : Option (List ℕ)). Listening r c.hear.new.reporter (g.L.Listener.framing c.hear.new.listener) (g.S.Turns.left c.args.src.now) left (g.K.Sink.held c.args.out.now) (g.K.Sink.held c.hear.new.out)
    (c.parts.taken + c.in_ok-part.part.count) c.hear.new.report.faults) (drained (g.C.Crew.ahead c.next_part.new.crew) (g.S.Turns.left c.next_part.new.src) none) so_ahead in
    if_err (Breaks r input output)
    c.from_residual-in_err-add_told.result c.in_err-add_told.field-0.0 c.from_residual-in_err-add_told.ensures.1
    (breaks_memory r input output c.in_err-add_told.field-0.0 c.in_err-add_told.ensures.memory
    (no_last r input output c.hear.new.reporter (g.L.Listener.framing c.hear.new.listener) (c.parts.taken + c.in_ok-part.part.count) c.hear.new.report.faults end c.finish.result finishes so))

pub returns-in_err-write_lines-clause-breaks : goal.returns-in_err-write_lines-clause-breaks
returns-in_err-write_lines-clause-breaks g c =
    let r : Reports g.row.R.Denot g.row.L-Event.Denot = record { tells = g.L.Listener.tells c.args.listener; reporting = g.R.Reporter.reporting; start = c.args.reporter; limit = c.args.limit } in
    let input : Input = input_of g.S.Turns.left g.S.Turns.faults c.args.src.now c.next_part.new.src in
    let output : Output = output_of g.K.Sink.held g.K.Sink.faults c.args.out.now c.write_lines.new.out in
    let end = subst (IsMet (g.S.Turns.faults c.args.src.now) (g.S.Turns.left c.next_part.new.src) (g.S.Turns.faults c.next_part.new.src)) c.in-End.is (c.in_ok-part.ensures.known (g.S.Turns.faults c.args.src.now) c.parts.invariant.known).1 in
    let finishes : (stream : List ℕ) → Stands (g.L.Listener.framing c.hear.new.listener) stream → events r.tells stream ≡ begun r.tells stream ++ option_to_list c.finish.result =
    λ stream st. subst (λ tells. events tells stream ≡ begun tells stream ++ option_to_list c.finish.result) (c.in_ok-hear.ensures.same ∙ c.parts.invariant.same) (c.finish.ensures stream st) in
    let between : Output = output_of g.K.Sink.held g.K.Sink.faults c.parts.out c.hear.new.out in
    let whole_is : c.deref.result.now ≡ c.next_part.new.buf.items = c.deref.ensures.value in
    let so_ahead : Listening r c.hear.new.reporter (g.L.Listener.framing c.hear.new.listener) (g.S.Turns.left c.args.src.now) (prepend_known (g.C.Crew.ahead c.next_part.new.crew) (g.S.Turns.left c.next_part.new.src)) (g.K.Sink.held c.args.out.now) (g.K.Sink.held c.hear.new.out)
    (c.parts.taken + c.in_ok-part.part.count) c.hear.new.report.faults =
    front_more r (g.S.Turns.left c.args.src.now) (g.K.Sink.held c.args.out.now) c.parts.reporter c.hear.new.reporter (g.L.Listener.framing c.parts.listener) (g.L.Listener.framing c.hear.new.listener)
    (prepend_known (g.C.Crew.ahead c.parts.crew) (g.S.Turns.left c.parts.src)) (prepend_known (g.C.Crew.ahead c.next_part.new.crew) (g.S.Turns.left c.next_part.new.src)) between c.parts.taken c.parts.report.faults c.hear.new.report.faults c.in_ok-part.part.count c.next_part.new.buf.items c.deref.result.now
    (g.L.Listener.tells c.parts.listener) c.parts.invariant.same whole_is c.in_ok-part.ensures.within.0 (omega (arith, c.in_ok-part.ensures.within.1))
    c.parts.invariant.listening c.in_ok-part.ensures.bytes c.in_ok-hear.ensures.heard c.in_ok-hear.ensures.few in
    let none : g.C.Crew.ahead c.next_part.new.crew ≡ [] = subst (IsDrained (g.C.Crew.ahead c.next_part.new.crew)) c.in-End.is c.in_ok-part.ensures.drained in
    let so : Listening r c.hear.new.reporter (g.L.Listener.framing c.hear.new.listener) (g.S.Turns.left c.args.src.now) (g.S.Turns.left c.next_part.new.src) (g.K.Sink.held c.args.out.now) (g.K.Sink.held c.hear.new.out)
    (c.parts.taken + c.in_ok-part.part.count) c.hear.new.report.faults =
    subst (λ (left : Option (List ℕ)). Listening r c.hear.new.reporter (g.L.Listener.framing c.hear.new.listener) (g.S.Turns.left c.args.src.now) left (g.K.Sink.held c.args.out.now) (g.K.Sink.held c.hear.new.out)
    (c.parts.taken + c.in_ok-part.part.count) c.hear.new.report.faults) (drained (g.C.Crew.ahead c.next_part.new.crew) (g.S.Turns.left c.next_part.new.src) none) so_ahead in
    let text_is : (gathered c.add_told.new.report) ≡ lines_from r.reporting c.hear.new.reporter (option_to_list c.finish.result) = ◌∙◌ {a = (gathered c.add_told.new.report)} {b = gathered c.hear.new.report ++ lines_from r.reporting c.hear.new.reporter (option_to_list c.finish.result)} c.in_ok-add_told.ensures.lines (ap (λ (l : List ℕ). l ++ lines_from r.reporting c.hear.new.reporter (option_to_list c.finish.result)) c.in_ok-hear.ensures.empty) in
    let front : HeardFront r input output =
    last_front r input output c.hear.new.reporter (g.L.Listener.framing c.hear.new.listener) (c.parts.taken + c.in_ok-part.part.count) c.hear.new.report.faults end c.finish.result finishes
    (g.K.Sink.held c.hear.new.out) so (gathered c.add_told.new.report) text_is c.in_err-write_lines.ensures.front in
    let later : g.K.Sink.faults c.args.out.now ≤ g.K.Sink.faults c.hear.new.out = omega (arith, c.hear.ensures.later, c.parts.invariant.sink_later) in
    if_err (Breaks r input output)
    c.from_residual-in_err-write_lines.result c.in_err-write_lines.field-0.0 c.from_residual-in_err-write_lines.ensures.1
    (breaks_sink r input output (g.K.Sink.faults c.hear.new.out) c.in_err-write_lines.field-0.0 c.in_err-write_lines.ensures.sink.0 front later c.in_err-write_lines.ensures.sink.1)

pub returns-clause-heard : goal.returns-clause-heard
returns-clause-heard g c =
    let r : Reports g.row.R.Denot g.row.L-Event.Denot = record { tells = g.L.Listener.tells c.args.listener; reporting = g.R.Reporter.reporting; start = c.args.reporter; limit = c.args.limit } in
    let input : Input = input_of g.S.Turns.left g.S.Turns.faults c.args.src.now c.next_part.new.src in
    let output : Output = output_of g.K.Sink.held g.K.Sink.faults c.args.out.now c.write_lines.new.out in
    let end = subst (IsMet (g.S.Turns.faults c.args.src.now) (g.S.Turns.left c.next_part.new.src) (g.S.Turns.faults c.next_part.new.src)) c.in-End.is (c.in_ok-part.ensures.known (g.S.Turns.faults c.args.src.now) c.parts.invariant.known).1 in
    let finishes : (stream : List ℕ) → Stands (g.L.Listener.framing c.hear.new.listener) stream → events r.tells stream ≡ begun r.tells stream ++ option_to_list c.finish.result =
    λ stream st. subst (λ tells. events tells stream ≡ begun tells stream ++ option_to_list c.finish.result) (c.in_ok-hear.ensures.same ∙ c.parts.invariant.same) (c.finish.ensures stream st) in
    let between : Output = output_of g.K.Sink.held g.K.Sink.faults c.parts.out c.hear.new.out in
    let whole_is : c.deref.result.now ≡ c.next_part.new.buf.items = c.deref.ensures.value in
    let so_ahead : Listening r c.hear.new.reporter (g.L.Listener.framing c.hear.new.listener) (g.S.Turns.left c.args.src.now) (prepend_known (g.C.Crew.ahead c.next_part.new.crew) (g.S.Turns.left c.next_part.new.src)) (g.K.Sink.held c.args.out.now) (g.K.Sink.held c.hear.new.out)
    (c.parts.taken + c.in_ok-part.part.count) c.hear.new.report.faults =
    front_more r (g.S.Turns.left c.args.src.now) (g.K.Sink.held c.args.out.now) c.parts.reporter c.hear.new.reporter (g.L.Listener.framing c.parts.listener) (g.L.Listener.framing c.hear.new.listener)
    (prepend_known (g.C.Crew.ahead c.parts.crew) (g.S.Turns.left c.parts.src)) (prepend_known (g.C.Crew.ahead c.next_part.new.crew) (g.S.Turns.left c.next_part.new.src)) between c.parts.taken c.parts.report.faults c.hear.new.report.faults c.in_ok-part.part.count c.next_part.new.buf.items c.deref.result.now
    (g.L.Listener.tells c.parts.listener) c.parts.invariant.same whole_is c.in_ok-part.ensures.within.0 (omega (arith, c.in_ok-part.ensures.within.1))
    c.parts.invariant.listening c.in_ok-part.ensures.bytes c.in_ok-hear.ensures.heard c.in_ok-hear.ensures.few in
    let none : g.C.Crew.ahead c.next_part.new.crew ≡ [] = subst (IsDrained (g.C.Crew.ahead c.next_part.new.crew)) c.in-End.is c.in_ok-part.ensures.drained in
    let so : Listening r c.hear.new.reporter (g.L.Listener.framing c.hear.new.listener) (g.S.Turns.left c.args.src.now) (g.S.Turns.left c.next_part.new.src) (g.K.Sink.held c.args.out.now) (g.K.Sink.held c.hear.new.out)
    (c.parts.taken + c.in_ok-part.part.count) c.hear.new.report.faults =
    subst (λ (left : Option (List ℕ)). Listening r c.hear.new.reporter (g.L.Listener.framing c.hear.new.listener) (g.S.Turns.left c.args.src.now) left (g.K.Sink.held c.args.out.now) (g.K.Sink.held c.hear.new.out)
    (c.parts.taken + c.in_ok-part.part.count) c.hear.new.report.faults) (drained (g.C.Crew.ahead c.next_part.new.crew) (g.S.Turns.left c.next_part.new.src) none) so_ahead in
    let text_is : (gathered c.add_told.new.report) ≡ lines_from r.reporting c.hear.new.reporter (option_to_list c.finish.result) = ◌∙◌ {a = (gathered c.add_told.new.report)} {b = gathered c.hear.new.report ++ lines_from r.reporting c.hear.new.reporter (option_to_list c.finish.result)} c.in_ok-add_told.ensures.lines (ap (λ (l : List ℕ). l ++ lines_from r.reporting c.hear.new.reporter (option_to_list c.finish.result)) c.in_ok-hear.ensures.empty) in
    rw c.write_lines.ensures.faults (whole r input output c.hear.new.reporter (g.L.Listener.framing c.hear.new.listener) (c.parts.taken + c.in_ok-part.part.count) c.hear.new.report.faults end c.finish.result finishes
    (g.K.Sink.held c.hear.new.out) so (gathered c.add_told.new.report) c.add_told.new.report.faults c.add_told.new.reporter text_is c.in_ok-add_told.ensures.faults c.in_ok-write_lines.ensures.ok c.in_ok-add_told.ensures.moved)
