-- Places that are kept in slots, one for each index from 0 on.
use Rattle.std.specs.Prelude.{◌+◌, ℕ, List, [], ◌∷◌, Option, Some, None}
use Rattle.std.specs.FinMap as map
use Rattle.defmt_places.specs.Places.{Map}

-- the places that are there, where the first slot is that of this index
abbrev pub listed : ℕ → List (Option (List ℕ)) → List (ℕ × List ℕ)
listed index [] = []
listed index (None ∷ slots) = listed (index + 1) slots
listed index (Some place ∷ slots) = (index, place) ∷ listed (index + 1) slots

abbrev pub map_of : List (Option (List ℕ)) → Map
map_of slots = map.from_entries (listed 0 slots)
