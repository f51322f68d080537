-- What the bytes behind a place begin with.
use Rattle.std.specs.Prelude.{◌≡◌, ◌≤◌, ℕ, List, ◌++◌, length, drop}

-- between the two places stand these bytes
pub record Carried (bytes : List ℕ) (at end : ℕ) (part : List ℕ) : Type 0 where
  pub within : end ≤ length bytes
  pub parts : drop at bytes ≡ part ++ drop end bytes
