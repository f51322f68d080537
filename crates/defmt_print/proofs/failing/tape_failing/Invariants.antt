use Rattle.std.proofs.Common.{◌≡◌, ◌≤◌, ◌+◌, drop}
use Rattle.defmt_print.specs.RunLines.{tape_failing}
use Rattle.defmt_print.proofs.failing.tape_failing.Given as goal

abbrev pub invariant-loop-mark : goal.invariant-loop-mark
invariant-loop-mark l = record {
  count : l.failing + tape_failing l.style l.script l.mark-index (drop l.mark-index l.tape) ≡ tape_failing l.style l.script 0 l.tape;
  few : l.failing ≤ l.mark-index;
}
