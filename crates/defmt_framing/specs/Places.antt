-- A stream laid out by its zeros.
use Rattle.std.specs.Prelude.{◌≡◌, ℕ, List, [], ◌∷◌, ◌++◌, false}
use Rattle.defmt_framing.specs.Cut.{has_zero}

-- each of these, and a zero behind it
unfoldable pub ended : List (List ℕ) → List ℕ
ended [] = []
ended (p ∷ parts) = p ++ 0 ∷ ended parts

-- none of these has a zero
abbrev pub LackZeros : List (List ℕ) → Type 0
LackZeros [] = Unit {0}
LackZeros (p ∷ parts) = (has_zero p ≡ false) × LackZeros parts
