-- What a text that tells places says of an index, by its lines.
use Rattle.std.specs.Prelude.{◌≡◌, ◌⊎◌, ℕ, false, List, [], ◌∷◌, Some}
use Rattle.defmt_places.specs.Places.{is_passed_over, pair_in}

-- the line is this index and its place
abbrev pub Tells : List ℕ → ℕ → List ℕ → Type 0
Tells line index place = (is_passed_over line ≡ false) × (pair_in line ≡ Some (index, place))

-- one of the lines is
abbrev pub IsTold : List (List ℕ) → ℕ → List ℕ → Type 0
IsTold [] index place = ⊥
IsTold (line ∷ lines) index place = Tells line index place ⊎ IsTold lines index place
