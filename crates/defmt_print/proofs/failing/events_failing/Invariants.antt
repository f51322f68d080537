use Rattle.std.proofs.Common.{◌≡◌, ◌≤◌, ◌+◌, drop, length}
use Rattle.std.specs.FinMap as map
use Rattle.std.specs.Prelude.{filter}
use Rattle.defmt_recording.specs.Styled.{is_failing, look_by}
use Rattle.defmt_print.proofs.failing.events_failing.Given as goal

abbrev pub invariant-loop-event : goal.invariant-loop-event
invariant-loop-event l = record {
  count : l.failing + length (filter (is_failing (look_by l.style l.table.entries map.empty)) (drop l.event-index l.events))
      ≡ length (filter (is_failing (look_by l.style l.table.entries map.empty)) l.events);
  few : l.failing ≤ l.event-index;
}
