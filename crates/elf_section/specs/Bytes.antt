-- Texts in bytes (ELF gABI, "String Table").
use Rattle.std.specs.Prelude.{◌≡◌, ◌≢◌, Bool, true, false, ℕ, suc, List, [], ◌∷◌, ◌++◌, ◌==◌, ◌+◌, ◌*◌, ◌/◌, ◌<◌, ◌^◌, length, drop, slice_index, Option, Some, None, option_map, ◌⊎◌, if◌then◌else◌}
use Rattle.std.specs.Borrow.{Bor}

-- what stands before the first zero
unfoldable pub to_zero : List ℕ → Option (List ℕ)
to_zero [] = None
to_zero (b ∷ bytes) = if b == 0 then Some [] else option_map (λ text. b ∷ text) (to_zero bytes)

-- the text from place `at` to the zero at its end
unfoldable pub text_at : ℕ → List ℕ → Option (List ℕ)
text_at at bytes = to_zero (drop at bytes)

-- the name, or what stands between its double quotes
abbrev pub IsUnquoted : List ℕ → List ℕ → Type 0
IsUnquoted name inner =
    (name ≡ 34 ∷ (inner ++ 34 ∷ []))
    ⊎ ((inner ≡ name) × ((text : List ℕ) → name ≡ 34 ∷ (text ++ 34 ∷ []) → ⊥))

-- what stands behind a front, where the text begins with it
abbrev pub IsBehind : List ℕ → List ℕ → Option (Bor (List ℕ)) → Type 0
IsBehind text front None = (rest : List ℕ) → text ≡ front ++ rest → ⊥
IsBehind text front (Some rest) = text ≡ front ++ rest.now

-- how many bytes stand before the first zero, or before the end
unfoldable pub gap : List ℕ → ℕ
gap [] = 0
gap (b ∷ bytes) = if b == 0 then 0 else suc (gap bytes)

-- gap number i is that from place 64 * (i + 1) on
pub record HasGaps (bytes gaps : List ℕ) : Type 0 where
  pub short : length bytes < 2 ^ 32
  pub count : length gaps ≡ length bytes / 64 + 1
  pub each : (i : ℕ) → i < length gaps → slice_index gaps i ≡ gap (drop (64 * (i + 1)) bytes)

-- ---- for private clauses

-- a name that begins with this byte has the front, or has it in double quotes, only where the test says so
abbrev pub MaySay : ℕ → List ℕ → Bool → Type 0
MaySay first front true = Unit {0}
MaySay first front false = (0 < length front) × (first ≢ 34) × (first ≢ slice_index front 0)
