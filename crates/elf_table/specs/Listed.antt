-- The symbols of a table (defmt book, "Interning").
use Rattle.std.specs.Prelude.{◌≡◌, ◌+◌, ℕ, List, length, Some, map}
use Rattle.std.specs.List.{sum_by}
use Rattle.serde_json.specs.Written.{compact_text}
use Rattle.defmt_intern.specs.declared.entry.Tag.{Tag}
use Rattle.defmt_intern.specs.declared.entry.Tag.TheVariants.{Other}
use Rattle.defmt_intern.specs.declared.entry.Entry.{Entry}
use Rattle.defmt_intern.specs.Name.{Names, IsSpelled, written}
use Rattle.defmt_intern.specs.Entries.{Map}
use Rattle.defmt_intern.specs.Entries as tables
use Rattle.elf_section.specs.Symbol.{PlainSymbol}

-- an entry's symbol has its name, and its index as the value
abbrev pub symbol_of : ℕ × Entry → PlainSymbol
symbol_of item = record { name = compact_text (written item.1); value = item.0 }

-- the symbols of all entries, in the order of their indexes
abbrev pub symbols_in : Map → List PlainSymbol
symbols_in table = map symbol_of (tables.entries table)

-- ---- how much text a table has

abbrev pub other_len : Tag → ℕ
other_len (Other name) = length name
other_len tag = 0

abbrev pub entry_size : Entry → ℕ
entry_size entry =
    length entry.«package» + length entry.text + length entry.disambiguator + other_len entry.tag

abbrev pub item_size : ℕ × Entry → ℕ
item_size item = entry_size item.1

-- the packages, texts, disambiguators and names of `Other` tags together
abbrev pub size_of : Map → ℕ
size_of table = sum_by item_size (tables.entries table)

-- no `Other` spells one of the eleven tags
abbrev pub AreSpelled : Map → Type 0
AreSpelled table =
    (index : ℕ) (entry : Entry) → tables.get table index ≡ Some entry → IsSpelled entry.tag

-- ---- for private clauses

-- the symbol's name says the entry
abbrev pub IsNamed : ℕ × Entry → Type 0
IsNamed item = IsSpelled item.1.tag → Names (symbol_of item).name item.1
