-- What the takes of a reader do.
use Rattle.std.specs.Prelude.{◌≡◌, ◌≤◌, ◌⊎◌, ℕ, ◌+◌, length}
use Rattle.std.specs.Io.{StartsWith}
use Rattle.dl_io.specs.Buffer.{Buffer}
use Rattle.rtt_ring.specs.Views.{Down}

-- takes one behind the other: the lower end d and the capture b of what it got become e and c. Where the last of them isn't told
-- to be of no bytes there may be none.
-- What was captured stands in front of what is captured. Behind a take of no bytes, all that its look found was got, or there is
-- no room
pub record Takes (d e : Down) (b c : Buffer) (last : ℕ) : Type 0 where
  pub size : e.size ≡ d.size
  pub later : d.found ≤ e.found
  pub looks : d.looks ≤ e.looks
  pub looked : last ≡ 0 → d.looks + 1 ≤ e.looks
  pub front : StartsWith c.items b.items
  pub room : c.room + length c.items ≡ b.room + length b.items
  pub ended : last ≡ 0 → (e.found ≡ length e.got) ⊎ (c.room ≡ 0)
