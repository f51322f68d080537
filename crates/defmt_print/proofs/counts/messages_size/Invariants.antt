use Rattle.std.proofs.Common.{◌≡◌, ◌≤◌, ◌*◌, length, take}
use Rattle.std.specs.Prelude.{sum_by}
use Rattle.defmt_print.specs.Printed.{message_size}
use Rattle.defmt_print.proofs.counts.messages_size.Given as goal

abbrev pub invariant-loop-mark : goal.invariant-loop-mark
invariant-loop-mark l = record {
  size : l.size ≡ sum_by (message_size l.script) (take l.mark-index l.marks);
  few : l.size ≤ 2000 * l.mark-index;
  buffer : length l.buffer ≡ 2000;
}
