-- The entries of a table by their indexes, and the language that their texts are read in (defmt book, "Interning": the table of format strings and their indexes).
use Rattle.std.specs.Prelude.{refl, ℕ, List, Option}
use Rattle.std.specs.Coded.{Coded, code_by, coded×, coded_ℕ}
use Rattle.std.specs.FinMap as std
use Rattle.std.specs.Ordering.{nat_cmp}
use Rattle.defmt_grammar.specs.contracts.language.Language.{the_row as language_row}
use Rattle.defmt_grammar.specs.declared.language.Language.{Language}
use Rattle.defmt_grammar.specs.declared.language.Language.TheVariants.{Base}
use Rattle.defmt_intern.specs.contracts.entry.Entry.{the_row as entry_row}
use Rattle.defmt_intern.specs.declared.entry.Entry.{Entry}

-- a finite map from indexes to entries, of a language
pub record Map : Type 0 where
  pub language : Language
  pub entries : std.FinMap nat_cmp Entry

-- it is stored as its two parts
abbrev pub code : Coded Map
code = code_by (Language × std.FinMap nat_cmp Entry)
    (coded× language_row.coded (std.code coded_ℕ entry_row.coded))
    (λ m. (m.language, m.entries))
    (λ p. record { language = p.0; entries = p.1 })
    (λ _. refl)

-- ---- as the functions of these names in `FinMap`

abbrev pub get : Map → ℕ → Option Entry
get m index = std.get m.entries index

abbrev pub len : Map → ℕ
len m = std.len m.entries

abbrev pub keys : Map → List ℕ
keys m = std.keys m.entries

-- in the order of the indexes
abbrev pub entries : Map → List (ℕ × Entry)
entries m = std.entries m.entries

abbrev pub insert : Map → ℕ → Entry → Map
insert m index entry =
    record { language = m.language; entries = std.insert m.entries index entry }

abbrev pub empty_of : Language → Map
empty_of language = record { language = language; entries = std.empty }

abbrev pub empty : Map
empty = empty_of Base

abbrev pub from_entries : Language → List (ℕ × Entry) → Map
from_entries language es = record { language = language; entries = std.from_entries es }
