-- The first 19 digits of a float's exact value.
use Rattle.std.specs.Prelude.{◌≡◌, ℕ, ◌+◌, ◌/◌, ◌%◌, ◌^◌, ◌<◌, ◌≤◌, Bool, nat_lt}
use Rattle.std.specs.Float.Ieee.{Format, binary32, binary64}
use Rattle.defmt_floats.specs.Shortest.{tens, numerator, denominator}

-- so many limbs of 64 bits have room for ten times the denominator
abbrev pub limb_count : Format → ℕ
limb_count binary32 = 5
limb_count binary64 = 33

-- the digits up to the place, and whether one that isn't 0 follows them
pub record IsLeading (f : Format) (bits leading place : ℕ) (more : Bool) : Type 0 where
  pub are : leading ≡ numerator f bits place / denominator f
  pub follows : more ≡ nat_lt 0 (numerator f bits place % denominator f)
  pub sizes : (10 ^ 18 ≤ leading) × (leading < 10 ^ 19)
  pub range : (19 ≤ place) × (place ≤ tens f + 344)
