-- What contracts see of a ring that was settled.
use Rattle.std.specs.Prelude.{ℕ, ◌-◌, ◌^◌, min, List}
use Rattle.rtt_ring.specs.declared.settled.RingKind.{RingKind}

-- a count that stands still at the last number of 64 bits
abbrev pub capped : ℕ → ℕ
capped n = min n (2 ^ 64 - 1)

-- the name of the split that the two ends come from, all bytes that were sent, all that were taken, and which ring it was
pub record Account : Type 0 where
  pub split : List ℕ
  pub sent : List ℕ
  pub got : List ℕ
  pub ring : RingKind
