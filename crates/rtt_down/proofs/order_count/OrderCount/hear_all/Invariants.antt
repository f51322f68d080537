use Rattle.std.proofs.Common.{ℕ, ◌+◌, ◌≤◌, List, ◌++◌, take}
use Rattle.rtt_down.specs.Listening.{Heard}
use Rattle.rtt_down.proofs.order_count.OrderCount.hear_all.Given as goal

abbrev pub invariant-loop-byte : goal.invariant-loop-byte
invariant-loop-byte l = record {
  few : l.self.seen ≤ l.fn.self.seen + l.byte-index;
  heard : (heard : List ℕ) → Heard heard l.fn.self.ear l.fn.self.seen l.fn.self.floor → Heard (heard ++ take l.byte-index l.bytes) l.self.ear l.self.seen l.self.floor;
}
