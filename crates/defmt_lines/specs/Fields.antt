-- Fields, which single spaces part.
use Rattle.std.specs.Prelude.{◌≡◌, ◌⊎◌, ℕ, List, [], ◌∷◌, ◌++◌}
use Rattle.defmt_grammar.specs.Cut.{Lacks}

-- a field has no space, and may be empty
abbrev pub IsField : List ℕ → Type 0
IsField field = Lacks 32 field

-- a first field, a space, and what stands behind it
pub record Begins (text field rest : List ℕ) : Type 0 where
  pub parted : text ≡ field ++ 32 ∷ rest
  pub bare : IsField field

-- the text is these fields and no more
abbrev pub AreFields : List ℕ → List (List ℕ) → Type 0
AreFields text [] = ⊥
AreFields text (field ∷ []) = (text ≡ field) × IsField field
AreFields text (field ∷ next ∷ more) =
    (rest : List ℕ) × Begins text field rest × AreFields rest (next ∷ more)

-- a field and the rest of the line: where the rest is empty, the space in front of it may be missing
abbrev pub IsFieldAndRest : List ℕ → List ℕ → List ℕ → Type 0
IsFieldAndRest text field rest =
    Begins text field rest ⊎ ((text ≡ field) × IsField field × (rest ≡ []))
