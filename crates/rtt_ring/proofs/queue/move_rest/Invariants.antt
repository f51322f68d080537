use Rattle.std.proofs.Common.{◌≡◌, ◌≤◌, ◌+◌, ◌++◌, length}
use Rattle.rtrb.specs.Ring.{known_items}
use Rattle.rtt_ring.proofs.queue.move_rest.Given as goal

abbrev pub invariant-loop-i : goal.invariant-loop-i
invariant-loop-i l = (l.rest.items ++ known_items l.consumer ≡ l.fn.rest.items ++ known_items l.fn.consumer) × (length (known_items l.consumer) + l.i ≡ l.count) × (l.count ≤ l.rest.room + l.i)
