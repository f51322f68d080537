-- How much text a table has.
use Rattle.std.specs.Prelude.{◌≡◌, ◌+◌, ℕ, List, length, None}
use Rattle.defmt_grammar.specs.declared.language.Language.{Language}
use Rattle.defmt_intern.specs.Entries as map
use Rattle.defmt_intern.specs.Table.{Map}
use Rattle.defmt_intern.specs.declared.entry.Entry.{Entry}
use Rattle.defmt_intern.specs.declared.entry.Tag.{Tag}
use Rattle.defmt_intern.specs.declared.entry.Tag.TheVariants.{Other}

-- the tag is one of the eleven that have names of their own
abbrev pub IsKnown : Tag → Type 0
IsKnown tag = (name : List ℕ) → tag ≡ Other name → ⊥

-- It counts the bytes of a table's texts: an empty table has none, and each further entry with a known tag adds those of its package,
-- its text and its disambiguator.
pub record CountsTexts (count : Map → ℕ) : Type 0 where
  pub empty : (language : Language) → count (map.empty_of language) ≡ 0
  pub more : (table : Map) (index : ℕ) (entry : Entry) → map.get table index ≡ None
      → IsKnown entry.tag
      → count (map.insert table index entry)
      ≡ count table + (length entry.«package» + length entry.text + length entry.disambiguator)
