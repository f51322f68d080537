-- Names of entries: a finite map from names to indexes.
use Rattle.std.specs.Prelude.{◌≡◌, ◌==◌, ℕ, All, Bool, true, List, [], ◌∷◌, Option, Some, None, String, string_bytes, if◌then◌else◌}
use Rattle.std.specs.Ordering.{is_lt, nat_cmp}
use Rattle.std.specs.Cmp.Lexicographic.{slice_cmp}
use Rattle.std.specs.FinMap as map
use Rattle.std.specs.declared.alloc.Global.{Global}
use Rattle.defmt_spelling.specs.declared.near.Near.{Near}

-- a name is the list of its bytes, and names have the order of their bytes
abbrev pub NameMap : Type 0
NameMap = map.FinMap (slice_cmp nat_cmp) ℕ

-- what is kept: each name, and its index
abbrev pub Kept : Type 0
Kept = List (String Global × ℕ)

abbrev pub pairs : Kept → List (List ℕ × ℕ)
pairs [] = []
pairs (p ∷ ps) = (string_bytes p.0, p.1) ∷ pairs ps

-- the map of what is kept
abbrev pub names_of : Kept → NameMap
names_of kept = map.from_entries (pairs kept)

abbrev pub first_named : List (List ℕ × ℕ) → ℕ → Option (List ℕ)
first_named [] index = None
first_named (p ∷ ps) index = if p.1 == index then Some p.0 else first_named ps index

-- the name of an index; of several the least, since the entries stand in the order of the names
abbrev pub name_of : NameMap → ℕ → Option (List ℕ)
name_of names index = first_named (map.entries names) index

-- ---- for private clauses

-- the map has this name, with this index
abbrev pub IsNear : NameMap → Option Near → Type 0
IsNear names None = Unit {0}
IsNear names (Some near) = map.get names (string_bytes near.name) ≡ Some near.index

abbrev pub AreNear : NameMap → List (Option Near) → Type 0
AreNear names near = All (IsNear names) near

-- the name is less than the least so far
abbrev pub comes_before : List ℕ → Option (List ℕ) → Bool
comes_before name None = true
comes_before name (Some least) = is_lt (slice_cmp nat_cmp name least)
