-- Pieces that stand whole in bytes.
use Rattle.std.specs.Prelude.{◌≡◌, ◌≤◌, ◌+◌, ◌<◌, ◌||◌, nat_lt, ℕ, true, false, List, [], length, take, drop, replicate, slice_index}
use Rattle.defmt_framing.specs.Cut.{has_zero}
use Rattle.defmt_framing.specs.Framing.{Framing}

-- Nothing is open, and behind zeros the bytes have a piece of this size, which isn't too long, and a zero.
pub record IsWhole (framer : Framing) (bytes : List ℕ) (start size : ℕ) : Type 0 where
  pub begun : (framer.zeros || nat_lt 0 start) ≡ true
  pub since : framer.since ≡ 0
  pub kept : framer.kept ≡ []
  pub zeros : take start bytes ≡ replicate start 0
  pub none : has_zero (take size (drop start bytes)) ≡ false
  pub some : 0 < size
  pub short : size ≤ 65536
  pub within : start + size < length bytes
  pub zero : slice_index (drop start bytes) size ≡ 0

-- there is no such piece
abbrev pub HasNoWhole : Framing → List ℕ → Type 0
HasNoWhole framer bytes = (start size : ℕ) → IsWhole framer bytes start size → ⊥
