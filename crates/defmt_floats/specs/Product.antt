-- A float's exact value as a number in fixed point. No public clause cites this module.
use Rattle.std.specs.Prelude.{◌≡◌, ℕ, ◌+◌, ◌*◌, ◌^◌, ◌<◌, ◌≤◌, Bool, IsTrue}

-- num / den lies from `upper` up to two more, in units of 2 ^ -shift; it is `upper` where that is exact
pub record IsFixed (num den upper shift : ℕ) (exact : Bool) : Type 0 where
  pub from : upper * den ≤ num * 2 ^ shift
  pub below : num * 2 ^ shift < (upper + 2) * den
  pub same : IsTrue exact → num * 2 ^ shift ≡ upper * den
