-- What a call leaves in a buffer that texts are written into, one behind another.
use Rattle.std.specs.Prelude.{◌≡◌, ◌≤◌, ◌<◌, ◌+◌, ℕ, List, ◌++◌, length, take, drop, Option, Some, None}

-- what stands in front of a place is as before
pub record Kept (old : List ℕ) (at : ℕ) (new : List ℕ) : Type 0 where
  pub long : length new ≡ length old
  pub front : take at new ≡ take at old

-- the text doesn't fit behind a place; what stands in front of that is as before
pub record Full (old : List ℕ) (at : ℕ) (new text : List ℕ) : Type 0 where
  pub kept : Kept old at new
  pub over : length old < at + length text

-- the text stands behind what stood in front of the place, and ends at a place; what stands behind that is as before
pub record Written (old : List ℕ) (at : ℕ) (new : List ℕ) (end : ℕ) (text : List ℕ) : Type 0 where
  pub long : length new ≡ length old
  pub within : end ≤ length old
  pub written : take end new ≡ take at old ++ text
  pub behind : drop end new ≡ drop end old

-- the text is written up to the place that is answered, or it doesn't fit
abbrev pub Writes : Option ℕ → List ℕ → ℕ → List ℕ → List ℕ → Type 0
Writes None old at new text = Full old at new text
Writes (Some end) old at new text = Written old at new end text
