-- Which stamps suit a table (defmt book, "Timestamps").
use Rattle.std.specs.Prelude.{◌≡◌, ℕ, List, [], ◌∷◌, Option, Some, None}
use Rattle.defmt_encode.specs.Carry.{stamp_slots}
use Rattle.defmt_intern.specs.Stamp.{stamp_of}
use Rattle.defmt_grammar.specs.declared.kind.IntSize.TheVariants.{W64}
use Rattle.defmt_grammar.specs.declared.kind.Kind.TheVariants.{Uint}
use Rattle.defmt_grammar.specs.declared.slot.Slot.{Slot}
use Rattle.defmt_grammar.specs.declared.slot.Slot.TheVariants.{One}
use Rattle.defmt_intern.specs.Table.{Map}

-- a stamp is one number of 64 bits
abbrev pub slots_for : Option ℕ → List Slot
slots_for None = []
slots_for (Some n) = One (Uint W64) ∷ []

-- the text of the table's timestamp takes one number of 64 bits where there is a stamp, and nothing
-- where there is none
abbrev pub StampSuits : Map → Option ℕ → Type 0
StampSuits t stamp = stamp_slots t (stamp_of t) ≡ slots_for stamp
