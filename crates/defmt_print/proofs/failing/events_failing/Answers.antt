use Rattle.std.proofs.Common.{◌<◌, ◌+◌, ◌∙◌, ap, arith, Bool, length, List, sym, ℕ}
use Rattle.std.specs.FinMap as map
use Rattle.std.specs.Prelude.{if◌then◌else◌}
use Rattle.defmt_decode.specs.declared.event.Event.{Event}
use Rattle.defmt_print.proofs.Grouped.{one_of}
use Rattle.defmt_recording.specs.Styled.{is_failing, look_by}
use Rattle.defmt_print.proofs.failing.events_failing.Goals as goal

pub loop-event-preserved : goal.loop-event-preserved
loop-event-preserved c =
    let list : List Event = c.args.events.now in
    let within : c.loop-event.event-index < length list = omega (arith, c.loop-event-test.true, c.loop-event.auto.event-index-end) in
    let one = c.one_if-failing.ensures.count ∙ ap (λ (b : Bool). if b then 1 else 0) (c.is_failing.ensures map.empty) in
    record {
      count = one_of (is_failing (look_by c.args.style.now c.args.table.now.entries map.empty)) list c.loop-event.event-index c.event-item.result within (sym c.event-item.is)
          _ c.loop-event.failing (c.loop-event.failing + c.one_if-failing.result) c.loop-event.invariant.count (ap (λ (n : ℕ). c.loop-event.failing + n) one);
      few = omega (arith, c.loop-event.invariant.few, c.one_if-failing.ensures.one);
    }
