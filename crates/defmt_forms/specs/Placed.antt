-- Texts that are put into a buffer, one behind another, for private clauses.
use Rattle.std.specs.Prelude.{◌≡◌, ◌≤◌, ◌+◌, ℕ, List, ◌++◌, length, take}

-- a piece stands at the front of a block
pub record Holds (block piece : List ℕ) : Type 0 where
  pub short : length piece ≤ 64
  pub front : take (length piece) block ≡ piece

-- a text was put behind a place, and ends at another; what stands in front is as before
pub record Placed (old : List ℕ) (at : ℕ) (new : List ℕ) (end : ℕ) (text : List ℕ) : Type 0 where
  pub long : length new ≡ length old
  pub ends : end ≡ at + length text
  pub within : end ≤ length new
  pub placed : take end new ≡ take at old ++ text
