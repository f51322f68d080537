use Rattle.std.proofs.Common.{◌≡◌, ◌+◌, ◌++◌, take, drop}
use Rattle.rtt_ring.proofs.word.lanes.copy_lanes.Given as goal

abbrev pub invariant-loop-i : goal.invariant-loop-i
invariant-loop-i l =
    (take (l.from + l.i) l.buf ≡ take l.from l.initial.buf ++ take l.i (drop l.lane l.found))
    × (drop (l.from + l.count) l.buf ≡ drop (l.from + l.count) l.initial.buf)
