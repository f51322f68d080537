-- What holds of the entries of a table, and how they are put there (defmt book, "Interning": the table of format strings and their indexes).
use Rattle.std.specs.Prelude.{◌≡◌, ◌≤◌, ◌<◌, ◌+◌, ◌^◌, ◌⊎◌, ℕ, List, [], ◌∷◌, length, map as map_list, Box, Option, Some, None, IsSome, Result, Ok, Err}
use Rattle.std.specs.declared.alloc.Global.{Global}
use Rattle.std.specs.Ordering.{nat_cmp}
use Rattle.std.specs.FinMap as std
use Rattle.std.specs.List.{All}
use Rattle.defmt_grammar.specs.declared.language.Language.{Language}
use Rattle.defmt_intern.specs.declared.entry.Entry.{Entry}
use Rattle.defmt_intern.specs.declared.entry.Tag.TheVariants.{Timestamp}
use Rattle.defmt_intern.specs.Body.{body_of}
pub use Rattle.defmt_intern.specs.Entries.{Map}
use Rattle.defmt_intern.specs.Entries as map
use Rattle.defmt_intern.specs.declared.kept.Kept.{Kept}
use Rattle.defmt_intern.specs.declared.putting.Cause.{Cause}
use Rattle.defmt_intern.specs.declared.putting.Cause.TheVariants as causes
use Rattle.defmt_intern.specs.declared.table.TableFault.{TableFault}
use Rattle.defmt_intern.specs.declared.table.TableFault.TheVariants as faults
use Rattle.std.specs.Prelude.{⊤}

-- a place for what is kept at one index
abbrev pub Slot : Type 0
Slot = Option (Box Kept Global)

abbrev pub entry_in : Slot → Option Entry
entry_in None = None
entry_in (Some kept) = Some kept.value.entry

abbrev pub entries_in : List Slot → List (Option Entry)
entries_in slots = map_list entry_in slots

-- the entries that are there, where the first place is that of this index
abbrev pub listed : ℕ → List (Option Entry) → List (ℕ × Entry)
listed index [] = []
listed index (None ∷ rest) = listed (index + 1) rest
listed index (Some entry ∷ rest) = (index, entry) ∷ listed (index + 1) rest

-- what is kept in the slots of the indexes from 0 on
abbrev pub kept_in : List Slot → std.FinMap nat_cmp Entry
kept_in slots = std.from_entries (listed 0 (entries_in slots))

abbrev pub map_of : Language → List Slot → Map
map_of language slots = map.from_entries language (listed 0 (entries_in slots))

-- what is kept there was read in this language
abbrev pub IsReadIn : Language → Slot → Type 0
IsReadIn language None = Unit {0}
IsReadIn language (Some kept) = kept.value.parsed ≡ body_of language kept.value.entry

abbrev pub AreReadIn : Language → List Slot → Type 0
AreReadIn language slots = All (IsReadIn language) slots

abbrev pub cause_number : Cause → ℕ
cause_number causes.Full = 1
cause_number causes.Double = 2
cause_number causes.Long = 4
cause_number causes.Stamps = 5

-- the entry at the index is the timestamp's
pub record IsStamp (table : Map) (index : ℕ) : Type 0 where
  pub entry : Entry
  pub there : map.get table index ≡ Some entry
  pub is_stamp : entry.tag ≡ Timestamp

-- what holds of every table
pub record IsLawful (table : Map) : Type 0 where
  pub small : (index : ℕ) (entry : Entry) → map.get table index ≡ Some entry → index < 2 ^ 16
  pub short : (index : ℕ) (entry : Entry) → map.get table index ≡ Some entry
      → length entry.text ≤ 4096
  pub one_stamp : (i j : ℕ) → IsStamp table i → IsStamp table j → i ≡ j

-- the index of the timestamp's entry, where there is one
abbrev pub StampIs : Map → Option ℕ → Type 0
StampIs table None = (i : ℕ) → IsStamp table i → ⊥
StampIs table (Some i) = IsStamp table i

pub record IsKept (table : Map) (stamp : Option ℕ) : Type 0 where
  pub lawful : IsLawful table
  pub stamp_is : StampIs table stamp

-- what holds of the slots of a table of a language, of the count of its entries and of its timestamp's index
pub record IsWhole (language : Language) (slots : List Slot) (count : ℕ) (stamp : Option ℕ)
    : Type 0 where
  pub kept : IsKept (map_of language slots) stamp
  pub counted : count ≡ map.len (map_of language slots)
  pub few : length slots ≤ 65536
  pub read : AreReadIn language slots

abbrev pub IsGreatestIn : std.FinMap nat_cmp Entry → ℕ → Type 0
IsGreatestIn kept i = IsSome (std.get kept i) × ((j : ℕ) → IsSome (std.get kept j) → j ≤ i)

abbrev pub IsGreatest : Map → ℕ → Type 0
IsGreatest table i = IsGreatestIn table.entries i

-- the greatest index plus 1, or 1 in an empty table
abbrev pub IsNext : Map → ℕ → Type 0
IsNext table n = ((table ≡ map.empty_of table.language) × (n ≡ 1))
    ⊎ ((i : ℕ) × IsGreatest table i × (n ≡ i + 1))

abbrev pub IsLong : Entry → Type 0
IsLong entry = 4096 < length entry.text

-- another timestamp
abbrev pub IsSecond : Map → Entry → Type 0
IsSecond table entry = (entry.tag ≡ Timestamp) × ((i : ℕ) × IsStamp table i)

-- why an entry is refused, whatever its index
abbrev pub EntryRefused : Map → Entry → ℕ → Type 0
EntryRefused table entry cause =
    ((cause ≡ 4) × IsLong entry) ⊎ ((cause ≡ 5) × (IsLong entry → ⊥) × IsSecond table entry)

abbrev pub InsertRefused : Map → ℕ → Entry → ℕ → Type 0
InsertRefused table index entry cause =
    ((cause ≡ 2) × IsSome (map.get table index))
    ⊎ ((IsSome (map.get table index) → ⊥) × EntryRefused table entry cause)

abbrev pub AddRefused : Map → Entry → ℕ → Type 0
AddRefused table entry cause =
    ((cause ≡ 1) × IsGreatest table 65535)
    ⊎ ((IsGreatest table 65535 → ⊥) × EntryRefused table entry cause)

-- ---- answers

-- the entry was put there, or why not; on a fault the table is as before
abbrev pub Puts : Map → ℕ → Entry → (ℕ → Type 0) → Result ⊤ TableFault → Map → Type 0
Puts old index entry IsRefused (Ok done) new =
    (new ≡ map.insert old index entry) × ((cause : ℕ) → IsRefused cause → ⊥)
Puts old index entry IsRefused (Err (faults.Refused cause)) new = (new ≡ old) × IsRefused cause
Puts old index entry IsRefused (Err faults.Memory) new = new ≡ old

abbrev pub Adds : Map → Entry → Result ℕ TableFault → Map → Type 0
Adds old entry (Ok index) new = IsNext old index × (new ≡ map.insert old index entry)
    × ((cause : ℕ) → AddRefused old entry cause → ⊥)
Adds old entry (Err (faults.Refused cause)) new = (new ≡ old) × AddRefused old entry cause
Adds old entry (Err faults.Memory) new = new ≡ old

abbrev pub RefusesOnly : {A : Type 0} → Result A TableFault → ℕ → Type 0
RefusesOnly (Ok done) cause = ⊥
RefusesOnly (Err (faults.Refused c)) cause = c ≡ cause
RefusesOnly (Err faults.Memory) cause = Unit {0}

-- only want of memory keeps the entry out
abbrev pub PutsUnlessMemory : Map → ℕ → Entry → Result ⊤ TableFault → Map → Type 0
PutsUnlessMemory old index entry (Ok done) new = new ≡ map.insert old index entry
PutsUnlessMemory old index entry (Err (faults.Refused c)) new = ⊥
PutsUnlessMemory old index entry (Err faults.Memory) new = new ≡ old
