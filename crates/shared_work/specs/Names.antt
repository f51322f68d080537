-- Which ledgers the blanks of a work are of.
use Rattle.std.specs.Prelude.{◌≡◌, ℕ, [], ◌∷◌, slice_index_or}
use Rattle.shared_work.specs.declared.pen.Blanks.{Blanks}

-- the names of the blanks, by the writers' numbers
abbrev pub names_of : Blanks → ℕ → ℕ
names_of b w = slice_index_or (b.b0.name ∷ b.b1.name ∷ b.b2.name ∷ b.b3.name ∷ b.b4.name ∷ b.b5.name ∷ b.b6.name ∷ b.b7.name ∷ []) w 0

-- the blanks of the writers 0 to 7 have these names
abbrev pub AreNamed : Blanks → (ℕ → ℕ) → Type 0
AreNamed b names = (b.b0.name ≡ names 0) × (b.b1.name ≡ names 1) × (b.b2.name ≡ names 2) × (b.b3.name ≡ names 3) × (b.b4.name ≡ names 4) × (b.b5.name ≡ names 5) × (b.b6.name ≡ names 6) × (b.b7.name ≡ names 7)
