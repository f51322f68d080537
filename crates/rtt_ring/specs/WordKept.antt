-- What the two ends of a word ring keep.
use Rattle.std.specs.Prelude.{◌≡◌, ◌⊎◌, ℕ, ◌+◌, ◌%◌, ◌<◌, ◌≤◌, length}
use Rattle.rtt_words.specs.declared.view.UpView.{UpView}
use Rattle.rtt_words.specs.declared.view.DownView.{DownView}
use Rattle.rtt_words.specs.History.{IsTold, loads_in, last_loaded}
use Rattle.rtt_ring.specs.Account.{capped}

-- the place `count` after `at`
abbrev pub IsNext : ℕ → ℕ → ℕ → ℕ → Type 0
IsNext at count size to = ((at + count < size) × (to ≡ at + count)) ⊎ ((at + count ≡ size) × (to ≡ 0))

-- how far the place `to` is ahead of the place `from`
abbrev pub IsAhead : ℕ → ℕ → ℕ → ℕ → Type 0
IsAhead from to size n = ((from ≤ to) × (n + from ≡ to)) ⊎ ((to < from) × (n + from ≡ to + size))

-- what the upper end keeps, of what its words know: the size, the place of the next byte, the room, and how many looks were
-- made and bytes put
pub record IsUp (u : UpView) (size at room looks count : ℕ) : Type 0 where
  pub big : (1 < size) × (size ≤ 65536)
  pub sized : u.size ≡ size
  pub place : at ≡ (length u.sent + length u.staged) % size
  pub has_room : length u.sent + length u.staged + room + 1 ≤ u.freed + size
  pub leaves : 0 < u.looks → length u.sent + length u.staged + room + 1 ≡ u.freed + size
  pub within : u.freed ≤ length u.sent
  pub looked : looks ≡ capped u.looks
  pub counted : count ≡ capped (length u.sent + length u.staged)
  pub loads : loads_in u.rd_off ≡ u.looks
  pub last : last_loaded 0 u.rd_off ≡ u.freed

-- what the lower end keeps, likewise
pub record IsDown (d : DownView) (size at count : ℕ) : Type 0 where
  pub big : (1 < size) × (size ≤ 65536)
  pub sized : d.size ≡ size
  pub place : at ≡ length d.got % size
  pub in_order : length d.got ≤ d.found
  pub counted : count ≡ capped (length d.got)

-- the two ends' histories of each offset are one: all publishings and looks of a run have one order, and so have all releases
-- and looks
pub record IsOneRun (u : UpView) (d : DownView) : Type 0 where
  pub published : IsTold u.wr_off d.wr_off (length u.sent)
  pub released : IsTold d.rd_off u.rd_off d.released
