-- How much text the table of a script has.
use Rattle.std.proofs.Common.{◌≡◌, ◌≤◌, ◌+◌, ◌^◌, ℕ, List, length, Ok, None, refl, arith}
use Rattle.defmt_grammar.specs.declared.language.Language.{Language}
use Rattle.defmt_intern.specs.Entries as map
use Rattle.defmt_intern.specs.Table.{Map}
use Rattle.defmt_intern.specs.declared.entry.Entry.{Entry}
use Rattle.defmt_intern.specs.declared.entry.Tag.{Tag}
use Rattle.defmt_intern.specs.declared.entry.Tag.TheVariants.{Other}
use Rattle.defmt_script.specs.Reads.{Reads}
use Rattle.defmt_script.specs.Script.{Script}
use Rattle.defmt_script.specs.Texts.{CountsTexts, IsKnown}
use Rattle.elf_table.specs.Listed.{entry_size, other_len, size_of}

no_other : (tag : Tag) → IsKnown tag → other_len tag ≡ 0
no_other (Other name) known = absurd (known name refl)
no_other tag known = refl

-- the size that a written table may have counts the texts
counts : ((language : Language) → size_of (map.empty_of language) ≡ 0) → ((table : Map) (index : ℕ) (entry : Entry) → map.get table index ≡ None → size_of (map.insert table index entry) ≡ size_of table + entry_size entry)
    → CountsTexts size_of
counts empty insert = record {
  empty = empty;
  more = λ table index entry none known.
      let more : entry_size entry ≡ length entry.«package» + length entry.text + length entry.disambiguator = omega (arith, no_other entry.tag known) in
      omega (arith, more, insert table index entry none);
}

abbrev Few : Type 0
Few = (count : Map → ℕ) (text : List ℕ) (s : Script) → CountsTexts count → Reads text (Ok s) → count s.table ≤ length text + 2 ^ 20

-- the table of a script that isn't longer than a script may be can be written
pub small_table : ((language : Language) → size_of (map.empty_of language) ≡ 0) → ((table : Map) (index : ℕ) (entry : Entry) → map.get table index ≡ None → size_of (map.insert table index entry) ≡ size_of table + entry_size entry)
    → Few → (text : List ℕ) (s : Script) → Reads text (Ok s) → length text ≤ 4194304 → size_of s.table ≤ 2 ^ 26
small_table empty insert few text s reads short = omega (arith, few size_of text s (counts empty insert) reads, short)
