-- What a run of a script by threads under orders answers.
use Rattle.std.specs.Prelude.{◌≡◌, ℕ, ◌<◌, List, [], ◌∷◌, ◌++◌, Bool, true, false, length, nat_le, if◌then◌else◌}
use Rattle.std.specs.Coded.{Coded, coded×, coded_list, coded_ℕ}
use Rattle.defmt_frames.specs.Frames.{count}
use Rattle.defmt_framing.specs.Cut.{has_zero, pieces, tail}
use Rattle.defmt_hooks.specs.contracts.level.Level.{the_row as level_row}
use Rattle.defmt_hooks.specs.declared.level.Level.{Level}
use Rattle.defmt_script.specs.Script.{Script}
use Rattle.rtt_down.specs.Orders.{orders_joined}
use Rattle.rtt_down.specs.Reel.{Reel}
use Rattle.rtt_down.specs.Steered.{AreHeard, IsSteered, stream_of, turns_of}
use Rattle.rtt_ring.specs.Account.{Account}

-- orders in their order: each has the number of frames after which it is sent, and its level
abbrev pub Plan : Type 0
Plan = List (ℕ × Level)

-- how many whole frames a stream has: what lies between two zeros, and isn't empty
abbrev pub whole_frames : List ℕ → ℕ
whole_frames stream = length (pieces stream)

-- the levels of the longest front of the orders that are all due once so many frames were captured
abbrev pub due : Plan → ℕ → List Level
due [] frames = []
due (order ∷ orders) frames = if nat_le order.0 frames then order.1 ∷ due orders frames else []

-- Every statement has its turn, and the turns are steered by what was got of the orders. Each turn took what its look found of
-- them, and heard it. Their stream went to the ring, and what was captured and the rest are the stream. What was captured is
-- what the reader took, and nothing is left. The orders that are due before any frame is whole were sent before any turn was
-- taken. Those that were due of the whole frames that were captured were sent, no other, and what was got and what wasn't heard
-- are what was sent. Both accounts are of the rings that the turns name.
pub record IsSteeredRun (s : Script) (reel : Reel) (account : Account)
    (captured rest : List ℕ) (orders : Account) (unheard : List ℕ) : Type 0 where
  pub steered : IsSteered s reel.turns orders.got
  pub hears : AreHeard orders.got 0 reel.turns reel.found
  pub all : (w : ℕ) → w < 8 → turns_of w reel.turns ≡ count s w
  pub sends : account.sent ≡ stream_of s reel.turns
  pub takes : account.got ≡ captured
  pub whole : account.sent ≡ captured ++ rest
  pub taken : rest ≡ []
  pub split : account.split ≡ reel.split
  pub down : orders.split ≡ reel.down
  pub early : reel.ahead ≡ orders_joined (due s.settings.orders 0)
  pub ordered : orders.sent ≡ orders_joined (due s.settings.orders (whole_frames account.got))
  pub heard : orders.sent ≡ orders.got ++ unheard

-- ---- for private clauses

abbrev pub is_open : List ℕ → Bool
is_open [] = false
is_open (b ∷ bytes) = true

-- what a count knows of a stream: how many whole frames there were, whether a zero was, and whether bytes are behind the last
pub record Counts (frames : ℕ) (zeros begun : Bool) (stream : List ℕ) : Type 0 where
  pub frames_are : frames ≡ whole_frames stream
  pub zeros_are : zeros ≡ has_zero stream
  pub begun_is : begun ≡ is_open (tail stream)

abbrev pub coded_plan : Coded Plan
coded_plan = coded_list (coded× coded_ℕ level_row.coded)
