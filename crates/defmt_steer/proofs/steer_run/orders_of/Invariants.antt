use Rattle.std.proofs.Common.{◌≡◌, ◌-◌, ◌≤◌, length, take}
use Rattle.defmt_steer.proofs.steer_run.orders_of.Given as goal

abbrev pub invariant-loop-order : goal.invariant-loop-order
invariant-loop-order l = record {
  within : l.number ≤ length l.script.settings.orders;
  taken : l.orders.items ≡ take l.number l.script.settings.orders;
}

abbrev pub decreases-loop-order : goal.decreases-loop-order
decreases-loop-order l = length l.script.settings.orders - l.number
