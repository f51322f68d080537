-- A step on the word of a journal's table, and the table's name.
use Rattle.std.specs.Prelude.{◌≡◌, ℕ, List, ◌∷◌}
use Rattle.atomic_table.specs.Seated.{TableId}
use Rattle.atomic_table.specs.Table.{Me, Step}
use Rattle.rtt_ring.specs.declared.journal.Traffic.{Traffic}

-- the seat's view becomes f of what it was
abbrev pub becomes : {S : Type 0} → (Traffic → Traffic) → Step S → Me S Traffic → ℕ → Me S Traffic → Type 0
becomes f step before n after = after ≡ (f before.0, before.1)

-- the numbers of a table, which no other table has
abbrev pub numbers_of : TableId → List ℕ
numbers_of z = z.words ∷ z.slots ∷ z.views_name ∷ z.atom ∷ z.block ∷ z.offset ∷ z.slot_names
