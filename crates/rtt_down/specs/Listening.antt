-- What stands behind the orders that were heard.
use Rattle.std.specs.Prelude.{◌≡◌, ℕ, zero, suc, List, length, Option, Some, slice_get}
use Rattle.rtt_down.specs.Orders.{kept_of, open_line, orders}
use Rattle.defmt_hooks.specs.declared.level.Level.{Level}
use Rattle.defmt_hooks.specs.declared.level.Level.TheVariants.{Trace}

-- the order number n of these, from 1, and Trace for 0
abbrev pub FloorIs : List Level → ℕ → Level → Type 0
FloorIs levels zero floor = floor ≡ Trace
FloorIs levels (suc n) floor = slice_get levels n ≡ Some floor

-- what is known once these bytes were heard: the open line, how many orders there were, and the last of them
pub record Heard (bytes : List ℕ) (line : Option (List ℕ)) (seen : ℕ) (floor : Level) : Type 0 where
  pub line_is : line ≡ kept_of (open_line bytes)
  pub seen_is : seen ≡ length (orders bytes)
  pub floor_is : FloorIs (orders bytes) seen floor
