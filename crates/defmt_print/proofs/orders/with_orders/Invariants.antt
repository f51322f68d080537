use Rattle.std.proofs.Common.{◌≡◌, ◌-◌, ◌≤◌, ◌++◌, length, take}
use Rattle.defmt_print.specs.OrderLines.{order_lines}
use Rattle.defmt_print.proofs.orders.with_orders.Given as goal

abbrev pub invariant-loop-level : goal.invariant-loop-level
invariant-loop-level l = record {
  within : l.number ≤ length l.script.settings.orders;
  added : l.out.items ≡ l.initial.out.items ++ order_lines (take l.number l.script.settings.orders) l.turns.turns;
}

abbrev pub decreases-loop-level : goal.decreases-loop-level
decreases-loop-level l = length l.script.settings.orders - l.number
