-- Sites: what a table has at an index for a place that logs.
use Rattle.std.specs.Prelude.{◌≡◌, ◌⊎◌, ◌+◌, ℕ, List, [], ◌∷◌, Option, Some, None, Result, Ok, Err, if◌then◌else◌}
use Rattle.std.specs.Borrow.{Bor}
use Rattle.defmt_grammar.specs.Slots.{slots_of}
use Rattle.defmt_grammar.specs.declared.language.Language.{Language}
use Rattle.defmt_grammar.specs.declared.slot.Slot.{Slot}
use Rattle.defmt_intern.specs.Body.{body_of}
use Rattle.defmt_intern.specs.Table.{Map}
use Rattle.defmt_intern.specs.declared.entry.Entry.{Entry}
use Rattle.defmt_intern.specs.declared.entry.Tag.{Tag}
use Rattle.defmt_intern.specs.declared.parsed.Parsed.{Parsed}
use Rattle.defmt_intern.specs.declared.parsed.Parsed.TheVariants.{One}
use Rattle.defmt_values.specs.Entries.{look, is_logged}
use Rattle.defmt_macros.specs.declared.site.Site.{Site}
use Rattle.defmt_macros.specs.declared.site.SiteFault.{SiteFault}
use Rattle.defmt_macros.specs.declared.site.SiteFault.TheVariants as faults

-- No entry; one that is no message's; one whose text was refused; or a message's tag and the slots
-- of its text.
pub data Found : Type 0 where
  no_entry : Found
  no_message : Found
  no_text : Found
  message : Tag → List Slot → Found

abbrev pub found_text : Tag → Parsed → Found
found_text tag (One pieces) = message tag (slots_of pieces)
found_text tag body = no_text

abbrev pub found_in : Language → Option Entry → Found
found_in language None = no_entry
found_in language (Some e) =
    if is_logged e.tag then found_text e.tag (body_of language e) else no_message

-- what a table has at an index
abbrev pub found : Map → ℕ → Found
found t index = found_in t.language (look t index)

-- the entry at the index is a message's with this tag, and its text has these slots
abbrev pub IsSite : Map → ℕ → Tag → List Slot → Type 0
IsSite t index tag slots = found t index ≡ message tag slots

-- The lists are alike in front of this position, and there they differ or one of them has ended.
abbrev pub DifferAt : List Slot → List Slot → ℕ → Type 0
DifferAt [] [] position = ⊥
DifferAt [] (y ∷ ys) position = position ≡ 0
DifferAt (x ∷ xs) [] position = position ≡ 0
DifferAt (x ∷ xs) (y ∷ ys) position =
    ((position ≡ 0) × (x ≡ y → ⊥))
    ⊎ ((before : ℕ) × (position ≡ before + 1) × (x ≡ y) × DifferAt xs ys before)

-- why there is no site with these slots
abbrev pub Refuses : Map → ℕ → List Slot → SiteFault → Type 0
Refuses t index slots faults.NoEntry = found t index ≡ no_entry
Refuses t index slots faults.NotLog = found t index ≡ no_message
Refuses t index slots faults.Unsupported = found t index ≡ no_text
Refuses t index slots (faults.Slots position) =
    (tag : Tag) × (own : List Slot) × IsSite t index tag own × DifferAt own slots position
Refuses t index slots faults.Memory = ⊥

-- ---- the answers of `Site::new`

abbrev pub Answers : Map → ℕ → List Slot → Result Site SiteFault → Type 0
Answers t index slots (Ok site) =
    (site.index ≡ index) × (site.slots ≡ slots) × IsSite t index site.tag slots
Answers t index slots (Err faults.Memory) = Unit {0}
Answers t index slots (Err fault) = Refuses t index slots fault

-- a site of this tag, unless memory runs out
abbrev pub GivesOnly : Result Site SiteFault → Tag → Type 0
GivesOnly (Ok site) tag = site.tag ≡ tag
GivesOnly (Err faults.Memory) tag = Unit {0}
GivesOnly (Err fault) tag = ⊥

-- this fault, unless memory runs out
abbrev pub RefusesOnly : Result Site SiteFault → SiteFault → Type 0
RefusesOnly (Ok site) expected = ⊥
RefusesOnly (Err faults.Memory) expected = Unit {0}
RefusesOnly (Err fault) expected = fault ≡ expected

-- ---- for private clauses

abbrev pub Finds : Found → Result (Bor Tag × Bor (List Slot)) SiteFault → Type 0
Finds what (Ok p) = what ≡ message p.0.now p.1.now
Finds what (Err faults.NoEntry) = what ≡ no_entry
Finds what (Err faults.NotLog) = what ≡ no_message
Finds what (Err faults.Unsupported) = what ≡ no_text
Finds what (Err fault) = ⊥
