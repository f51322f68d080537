use Rattle.std.proofs.Common.{◌≡◌, ◌≤◌, ◌-◌, ◌++◌}
use Rattle.rtt_ring.specs.Views.{UpKept}
use Rattle.ring_bench.specs.Frames.{frames}
use Rattle.ring_bench.proofs.passage.send_all.Given as goal

abbrev pub invariant-loop-done : goal.invariant-loop-done
invariant-loop-done g l =
    (l.done ≤ l.count) × ((g.U.UpEnd.view l.up).sent ≡ (g.U.UpEnd.view l.initial.up).sent ++ frames l.done l.frame)
    × UpKept (g.U.UpEnd.view l.initial.up) (g.U.UpEnd.view l.up)

abbrev pub decreases-loop-done : goal.decreases-loop-done
decreases-loop-done g l = l.count - l.done
