-- What a gate was asked, and what it was told.
use Rattle.std.specs.Prelude.{◌≤◌, ◌<◌, ◌+◌, ℕ}

-- it was asked at each place from one to another
abbrev pub PassedAll : (ℕ → Type 0) → ℕ → ℕ → Type 0
PassedAll passed from to = (place : ℕ) → from ≤ place → place < to → passed place

-- Of what was captured by takes of at most 256 bytes each, from one number of bytes to another, it was told the totals: for each of these
-- bytes one at which the byte was captured, and fewer than 256 behind it.
abbrev pub ToldAll : (ℕ → Type 0) → ℕ → ℕ → Type 0
ToldAll told from to =
    (count : ℕ) → from < count → count ≤ to → (total : ℕ) × told total × (count ≤ total) × (total < count + 256) × (total ≤ to)

-- ---- the same as facts that a type can keep, of which nothing but that they hold is known

abbrev pub WasPassed : (ℕ → Type 0) → ℕ → ℕ → Type 0
WasPassed passed from to = ∥ PassedAll passed from to ∥₁

abbrev pub WasTold : (ℕ → Type 0) → ℕ → ℕ → Type 0
WasTold told from to = ∥ ToldAll told from to ∥₁

-- what a gate shows is what was named
abbrev pub Means : (ℕ → Type 0) → (ℕ → Type 0) → Type 0
Means shown named = ∥ ((n : ℕ) → shown n → named n) ∥₁
