use Rattle.std.proofs.Common.{◌<◌, ℕ, List, Option, length, None, sym, arith}
use Rattle.defmt_decode.specs.declared.event.Event.{Event}
use Rattle.defmt_listen.specs.Heard.{Reporting}
use Rattle.defmt_recording.specs.Styled.{by_place, look_by}
use Rattle.defmt_recording.proofs.Events.{more_lines, more_state}
use Rattle.defmt_recording.proofs.printing.event_lines.Goals as goal

pub loop-event-preserved : goal.loop-event-preserved
loop-event-preserved c =
    let r : Reporting (Option ℕ) Event = by_place (look_by c.args.style.now c.args.table.now.entries c.args.places.now) in
    let list : List Event = c.args.events.now in
    let within : c.loop-event.event-index < length list = omega (arith, c.loop-event-test.true, c.loop-event.auto.event-index-end) in
    record {
      lines = more_lines r None c.loop-event.last list c.loop-event.event-index c.event-item.result within (sym c.event-item.is) c.loop-event.invariant.state
          c.loop-event.out.items c.add_styled_line.new.out.items c.loop-event.invariant.lines c.in_ok-add_styled_line.ensures;
      state = more_state r None c.loop-event.last list c.loop-event.event-index c.event-item.result within (sym c.event-item.is) c.loop-event.invariant.state
          c.last_behind-last.result c.last_behind-last.ensures;
    }
