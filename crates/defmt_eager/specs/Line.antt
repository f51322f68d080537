-- The printed line of a statement: its stamp, its level and its text (defmt book, the display of log frames).
use Rattle.std.specs.Prelude.{◌<◌, ◌⊎◌, ℕ, codes, List, [], ◌++◌, length, Option, None, Some}
use Rattle.std.specs.Option.{option_and_then}
use Rattle.defmt_eager.specs.declared.front.Front.{Front}
use Rattle.defmt_eager.specs.Show.{eager_text}
use Rattle.defmt_intern.specs.Stamp.{stamp_of}
use Rattle.defmt_intern.specs.Table.{Map}
use Rattle.defmt_intern.specs.declared.entry.Tag.{Tag}
use Rattle.defmt_intern.specs.declared.entry.Tag.TheVariants as tags
use Rattle.defmt_values.specs.Entries.{look}
use Rattle.defmt_values.specs.Plain.{Vals}

-- the most bytes of the text of a statement, and of that of a stamp
abbrev pub printed_limit : ℕ
printed_limit = 65536

-- the name of a level, left in five places; what is no level has none
abbrev pub level_text : Tag → Option (List ℕ)
level_text tags.Trace = Some (codes "TRACE")
level_text tags.Debug = Some (codes "DEBUG")
level_text tags.Info = Some (codes "INFO ")
level_text tags.Warn = Some (codes "WARN ")
level_text tags.Error = Some (codes "ERROR")
level_text tag = None

-- the level of an index's entry
abbrev pub level_at : Map → ℕ → Option (List ℕ)
level_at t index = option_and_then (λ e. level_text e.tag) (look t index)

-- the text of a stamp with these arguments, empty where there is no timestamp's entry
abbrev pub stamp_text : Map → Option ℕ → Vals → List ℕ
stamp_text t None stamp = []
stamp_text t (Some index) stamp = eager_text t index stamp

-- a space behind the stamp's text, where there is a timestamp's entry
abbrev pub stamp_space : Option ℕ → List ℕ
stamp_space None = []
stamp_space (Some index) = codes " "

-- what stands in front of a statement's text: the stamp, the level and a space, or nothing where there is no level
abbrev pub front_text : Map → Option ℕ → Vals → Option (List ℕ) → List ℕ
front_text t at stamp None = []
front_text t at stamp (Some level) =
    (stamp_text t at stamp ++ stamp_space at) ++ (level ++ codes " ")

-- the stamp's text where the line of a statement of this level has it, so where there is a level
abbrev pub shown_stamp : Map → Option ℕ → Vals → Option (List ℕ) → List ℕ
shown_stamp t at stamp None = []
shown_stamp t at stamp (Some level) = stamp_text t at stamp

-- how many bytes these have
abbrev pub sizes_at : Map → Option ℕ → Vals → Option (List ℕ) → Front
sizes_at t at stamp level = record {
  stamp = length (shown_stamp t at stamp level);
  size = length (front_text t at stamp level);
}

abbrev pub front_sizes : Map → Vals → ℕ → Front
front_sizes t stamp index = sizes_at t (stamp_of t) stamp (level_at t index)

-- the line of a statement, without a newline at its end
abbrev pub eager_line : Map → Vals → ℕ → Vals → List ℕ
eager_line t stamp index vs =
    front_text t (stamp_of t) stamp (level_at t index) ++ eager_text t index vs

-- the text has too many bytes
abbrev pub IsLong : List ℕ → Type 0
IsLong text = printed_limit < length text

-- the stamp's text or the statement's has too many bytes
abbrev pub IsWide : Map → Vals → ℕ → Vals → Type 0
IsWide t stamp index vs = IsLong (stamp_text t (stamp_of t) stamp) ⊎ IsLong (eager_text t index vs)
