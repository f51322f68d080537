-- The table that symbols name (defmt book, "Interning": a symbol of `.defmt` has the entry as its name and the index as its value).
use Rattle.std.specs.Prelude.{◌≡◌, ◌≢◌, ◌≤◌, ◌<◌, ◌⊎◌, ℕ, List, length, Some, slice_get, Result, Ok, Err, ⊤}
use Rattle.byte_images.specs.First.{Place, FirstToFail}
use Rattle.defmt_grammar.specs.declared.language.Language.{Language}
use Rattle.defmt_grammar.specs.declared.language.Language.TheVariants.{Full}
use Rattle.defmt_intern.specs.declared.entry.Entry.{Entry}
use Rattle.defmt_intern.specs.declared.entry.Tag.TheVariants.{Timestamp}
use Rattle.defmt_intern.specs.Entries as map
use Rattle.defmt_intern.specs.Table.{Map, InsertRefused}
use Rattle.defmt_intern.specs.declared.table.Profile.{Profile}
use Rattle.defmt_intern.specs.declared.table.Table.{Table}
use Rattle.elf_section.specs.Checks.{Refused, ProfileIs}
use Rattle.elf_section.specs.Listed.{Lists}
use Rattle.elf_section.specs.Symbol.{PlainSymbol}
use Rattle.elf_table.specs.Said.{Says}
use Rattle.elf_table.specs.declared.fault.LoadFault.{LoadFault}
use Rattle.elf_table.specs.declared.fault.LoadFault.TheVariants as faults
use Rattle.elf_table.specs.declared.fault.Cause.{Cause}
use Rattle.elf_table.specs.declared.fault.Cause.TheVariants as causes
use Rattle.elf_table.specs.declared.fault.StepFault.{StepFault}
use Rattle.elf_table.specs.declared.fault.StepFault.TheVariants as steps

-- symbol number p of the list
abbrev pub At : List PlainSymbol → ℕ → PlainSymbol → Type 0
At symbols p s = slice_get symbols p ≡ Some s

-- ---- the checks of the symbols, one symbol after another

pub data NameCheck : Type 0 where
  has_entry : ℕ → NameCheck
  is_small : ℕ → NameCheck
  is_single : ℕ → NameCheck
  is_short : ℕ → NameCheck
  is_one_stamp : ℕ → NameCheck

abbrev pub place : NameCheck → Place
place (has_entry p) = record { row = p; index = 0 }
place (is_small p) = record { row = p; index = 1 }
place (is_single p) = record { row = p; index = 2 }
place (is_short p) = record { row = p; index = 3 }
place (is_one_stamp p) = record { row = p; index = 4 }

abbrev pub cause_of : NameCheck → ℕ
cause_of (has_entry p) = 3
cause_of (is_small p) = 6
cause_of (is_single p) = 2
cause_of (is_short p) = 4
cause_of (is_one_stamp p) = 5

abbrev pub Holds : Language → List PlainSymbol → NameCheck → Type 0
-- its name says an entry
Holds language symbols (has_entry p) =
    (s : PlainSymbol) → At symbols p s → (e : Entry) × Says language s.name e
-- its value is an index
Holds language symbols (is_small p) = (s : PlainSymbol) → At symbols p s → s.value ≤ 65535
-- no earlier symbol has its value
Holds language symbols (is_single p) = (s : PlainSymbol) → At symbols p s
    → (q : ℕ) (t : PlainSymbol) → q < p → At symbols q t → t.value ≢ s.value
-- its text isn't too long
Holds language symbols (is_short p) = (s : PlainSymbol) (e : Entry) → At symbols p s
    → Says language s.name e → length e.text ≤ 4096
-- if it is the timestamp's, no earlier one is
Holds language symbols (is_one_stamp p) = (s : PlainSymbol) (e : Entry) → At symbols p s
    → Says language s.name e → e.tag ≡ Timestamp → (q : ℕ) (t : PlainSymbol) (f : Entry) → q < p
    → At symbols q t → Says language t.name f → f.tag ≢ Timestamp

-- ---- the file's table, and its refusals

-- the table is of this language, and has exactly the pairs of the symbols' values and entries
pub record IsTableOf (language : Language) (symbols : List PlainSymbol) (table : Map) : Type 0 where
  pub spoken : table.language ≡ language
  pub passes : (check : NameCheck) → Holds language symbols check
  pub each : (p : ℕ) (s : PlainSymbol) (e : Entry) → At symbols p s → Says language s.name e
      → map.get table s.value ≡ Some e
  pub only : (i : ℕ) (e : Entry) → map.get table i ≡ Some e
      → (p : ℕ) × (s : PlainSymbol) × At symbols p s × (s.value ≡ i) × Says language s.name e

-- the first refusal of the symbols
pub record NamesRefused (language : Language) (symbols : List PlainSymbol) (cause symbol : ℕ)
    : Type 0 where
  pub check : NameCheck
  pub first : FirstToFail place (Holds language symbols) check
  pub cause_is : cause ≡ cause_of check
  pub symbol_is : symbol ≡ (place check).row

-- the file names the table in this language: its symbols are the entries, and its markers say the profile
pub record NamesTable (language : Language) (file : List ℕ) (table : Table) : Type 0 where
  pub symbols : List PlainSymbol
  pub lists : Lists file symbols
  pub table_of : IsTableOf language symbols table.entries
  pub profile : ProfileIs file table.profile

-- one of its symbols is refused in this language
pub record SymbolRefused (language : Language) (file : List ℕ) (cause symbol : ℕ) : Type 0 where
  pub symbols : List PlainSymbol
  pub lists : Lists file symbols
  pub refused : NamesRefused language symbols cause symbol

-- the same table in the full language
abbrev pub in_full : Table → Table
in_full table = record {
  entries = record { language = Full; entries = table.entries.entries };
  profile = table.profile;
}

-- ---- answers

abbrev pub ReadsTable : Language → List ℕ → Result Table LoadFault → Type 0
ReadsTable language file (Ok table) = NamesTable language file table
ReadsTable language file (Err (faults.Elf cause part place)) =
    Refused file (record { cause = cause; part = part; place = place })
ReadsTable language file (Err (faults.Names cause symbol)) =
    SymbolRefused language file cause symbol
ReadsTable language file (Err faults.Memory) = Unit {0}

-- this answer, unless memory runs out
abbrev pub AnswersOnly : Result Table LoadFault → Result Table LoadFault → Type 0
AnswersOnly (Ok table) wanted = Ok table ≡ wanted
AnswersOnly (Err (faults.Elf cause part place)) wanted = Err (faults.Elf cause part place) ≡ wanted
AnswersOnly (Err (faults.Names cause symbol)) wanted = Err (faults.Names cause symbol) ≡ wanted
AnswersOnly (Err faults.Memory) wanted = Unit {0}

-- ---- for private clauses

-- the table of the symbols below n
pub record Made (language : Language) (symbols : List PlainSymbol) (n : ℕ) (table : Map)
    : Type 0 where
  pub spoken : table.language ≡ language
  pub passed : (check : NameCheck) → (place check).row < n → Holds language symbols check
  pub each : (p : ℕ) (s : PlainSymbol) (e : Entry) → p < n → At symbols p s
      → Says language s.name e → map.get table s.value ≡ Some e
  pub only : (i : ℕ) (e : Entry) → map.get table i ≡ Some e → (p : ℕ) × (s : PlainSymbol)
      × (p < n) × At symbols p s × (s.value ≡ i) × Says language s.name e

abbrev pub cause_number : Cause → ℕ
cause_number causes.Name = 3
cause_number causes.Index = 6
cause_number (causes.Insert cause) = cause

abbrev pub SaysNone : Language → List ℕ → Type 0
SaysNone language name = (e : Entry) → Says language name e → ⊥

abbrev pub StepRefused : Map → PlainSymbol → ℕ → Type 0
StepRefused table s cause =
    ((cause ≡ 3) × SaysNone table.language s.name)
    ⊎ (((cause ≡ 6) × (65535 < s.value) × ((e : Entry) × Says table.language s.name e))
    ⊎ ((e : Entry) × Says table.language s.name e × (s.value ≤ 65535)
    × InsertRefused table s.value e cause))

pub record Puts (old new : Map) (s : PlainSymbol) : Type 0 where
  pub entry : Entry
  pub names : Says old.language s.name entry
  pub small : s.value ≤ 65535
  pub new_is : new ≡ map.insert old s.value entry
  pub may : (cause : ℕ) → InsertRefused old s.value entry cause → ⊥

-- the entry of the name, or why there is none
abbrev pub Reads : Language → List ℕ → Result Entry StepFault → Type 0
Reads language name (Ok entry) = Says language name entry
Reads language name (Err (steps.Refused cause)) =
    (cause_number cause ≡ 3) × SaysNone language name
Reads language name (Err steps.Memory) = Unit {0}

abbrev pub Steps : Map → PlainSymbol → Result ⊤ StepFault → Map → Type 0
Steps old s (Ok done) new = Puts old new s
Steps old s (Err (steps.Refused cause)) new = StepRefused old s (cause_number cause)
Steps old s (Err steps.Memory) new = Unit {0}

abbrev pub Makes : Language → List PlainSymbol → Profile → Result Table LoadFault → Type 0
Makes language symbols profile (Ok table) =
    Made language symbols (length symbols) table.entries × (table.profile ≡ profile)
Makes language symbols profile (Err (faults.Elf cause part place)) = ⊥
Makes language symbols profile (Err (faults.Names cause symbol)) =
    NamesRefused language symbols cause symbol
Makes language symbols profile (Err faults.Memory) = Unit {0}
