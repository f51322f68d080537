use Rattle.std.proofs.Common.{◌≡◌, take, None}
use Rattle.defmt_listen.specs.Heard.{lines_from, state_behind}
use Rattle.defmt_recording.specs.Styled.{by_place, look_by}
use Rattle.defmt_recording.proofs.printing.event_lines.Given as goal

abbrev pub invariant-loop-event : goal.invariant-loop-event
invariant-loop-event l = record {
  lines : l.out.items ≡ lines_from (by_place (look_by l.style l.table.entries l.places)) None (take l.event-index l.events);
  state : l.last ≡ state_behind (by_place (look_by l.style l.table.entries l.places)) None (take l.event-index l.events);
}
