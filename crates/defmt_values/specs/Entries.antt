-- What a table has at an index, and the pieces that arguments are for.
use Rattle.std.specs.Prelude.{◌+◌, ℕ, Bool, true, false, nat_lt, List, [], ◌∷◌, Option, None, if◌then◌else◌}
use Rattle.defmt_intern.specs.Entries as map
use Rattle.std.specs.List.{slice_get}
use Rattle.defmt_grammar.specs.Slots.{slots_of, uses_at}
use Rattle.defmt_grammar.specs.declared.piece.Piece.{Piece}
use Rattle.defmt_grammar.specs.declared.slot.Slot.{Slot}
use Rattle.defmt_intern.specs.Table.{Map}
use Rattle.defmt_intern.specs.declared.entry.Entry.{Entry}
use Rattle.defmt_intern.specs.declared.entry.Tag.{Tag}
use Rattle.defmt_intern.specs.declared.entry.Tag.TheVariants as tags

-- the entry at an index
abbrev pub look : Map → ℕ → Option Entry
look t index = if nat_lt index 65536 then map.get t index else None

-- the tags of entries that Format values may have
abbrev pub is_format : Tag → Bool
is_format tags.Prim = true
is_format tags.Derived = true
is_format tags.Write = true
is_format tag = false

abbrev pub is_interned : Tag → Bool
is_interned tags.Interned = true
is_interned tag = false

-- the tags of what is logged: the levels and println
abbrev pub is_logged : Tag → Bool
is_logged tags.Trace = true
is_logged tags.Debug = true
is_logged tags.Info = true
is_logged tags.Warn = true
is_logged tags.Error = true
is_logged tags.Println = true
is_logged tag = false

-- a variant, by its number of one byte
abbrev pub variant_at : List (List Piece) → ℕ → Option (List Piece)
variant_at forms v = if nat_lt v 256 then slice_get forms v else None

-- A place for an argument: the slot of a position, and how often the text uses the position.
pub record Place : Type 0 where
  pub slot : Slot
  pub uses : ℕ

-- the places of slots, of which the first has this position
abbrev pub places_from : List Piece → ℕ → List Slot → List Place
places_from ps position [] = []
places_from ps position (slot ∷ slots) =
    record { slot = slot; uses = uses_at position ps } ∷ places_from ps (position + 1) slots

-- the places of all positions
abbrev pub places_of : List Piece → List Place
places_of ps = places_from ps 0 (slots_of ps)
