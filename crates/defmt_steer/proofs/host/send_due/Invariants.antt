use Rattle.std.proofs.Common.{◌≡◌, ◌-◌, ◌≤◌, length, take}
use Rattle.defmt_steer.specs.Steers.{due}
use Rattle.rtt_down.specs.Orders.{orders_joined}
use Rattle.rtt_ring.specs.Views.{UpKept}
use Rattle.defmt_steer.proofs.host.send_due.Given as goal

abbrev pub invariant-loop-sent : goal.invariant-loop-sent
invariant-loop-sent g l = record {
  next : l.sent ≤ length (due l.orders l.frames);
  sent : (g.U.UpEnd.view l.up).sent ≡ orders_joined (take l.sent (due l.orders l.frames));
  kept : UpKept (g.U.UpEnd.view l.fn.up) (g.U.UpEnd.view l.up);
}

abbrev pub decreases-loop-sent : goal.decreases-loop-sent
decreases-loop-sent g l = length l.orders - l.sent
