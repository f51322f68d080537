-- A stream cut at its zeros (defmt book, the encoding rzcobs: a zero ends each frame, and a code
-- has none).
use Rattle.std.specs.Prelude.{ℕ, zero, suc, List, [], ◌∷◌, Bool, true, false, if◌then◌else◌}

-- some byte is zero
unfoldable pub has_zero : List ℕ → Bool
has_zero [] = false
has_zero (zero ∷ bytes) = true
has_zero (suc b ∷ bytes) = has_zero bytes

-- what comes before the first zero, or all where there is none
unfoldable pub front : List ℕ → List ℕ
front [] = []
front (zero ∷ bytes) = []
front (suc b ∷ bytes) = suc b ∷ front bytes

-- what lies between two zeros that follow one another
unfoldable pub gaps : List ℕ → List (List ℕ)
gaps [] = []
gaps (zero ∷ bytes) = if has_zero bytes then front bytes ∷ gaps bytes else []
gaps (suc b ∷ bytes) = gaps bytes

-- what comes after the last zero, or nothing where there is none
unfoldable pub tail : List ℕ → List ℕ
tail [] = []
tail (zero ∷ bytes) = if has_zero bytes then tail bytes else bytes
tail (suc b ∷ bytes) = tail bytes

-- those that aren't empty
unfoldable pub nonempty : List (List ℕ) → List (List ℕ)
nonempty [] = []
nonempty ([] ∷ parts) = nonempty parts
nonempty ((b ∷ bytes) ∷ parts) = (b ∷ bytes) ∷ nonempty parts

-- what lies between two zeros, and isn't empty
abbrev pub pieces : List ℕ → List (List ℕ)
pieces stream = nonempty (gaps stream)

-- the bytes after the last zero, or all where there is none
abbrev pub since_zero : List ℕ → List ℕ
since_zero stream = if has_zero stream then tail stream else stream
