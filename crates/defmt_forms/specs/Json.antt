-- The objects of printed lines, as compact JSON (RFC 8259) with the escapes of `serde_json`.
use Rattle.std.specs.Prelude.{◌≡◌, ℕ, Bool, true, nat_le, List, [], ◌++◌, codes, Option, Some, None, option_map, if◌then◌else◌}
use Rattle.std.specs.Fmt.{decimal}
use Rattle.std.specs.List.{list_all}
use Rattle.defmt_forms.specs.Names.{level_name}
use Rattle.defmt_hooks.specs.declared.level.Level.{Level}
use Rattle.json.specs.Print.{quoted}

-- a member behind others, with this JSON as its value
abbrev pub member : List ℕ → List ℕ → List ℕ
member name value = codes "," ++ (quoted name ++ (codes ":" ++ value))

abbrev pub text_member : List ℕ → List ℕ → List ℕ
text_member name text = member name (quoted text)

abbrev pub number_member : List ℕ → ℕ → List ℕ
number_member name number = member name (decimal number)

-- a member that may be left out
abbrev pub optional_member : List ℕ → Option (List ℕ) → List ℕ
optional_member name None = []
optional_member name (Some text) = text_member name text

-- the object of an event, with these members behind its first
abbrev pub object : List ℕ → List ℕ → List ℕ
object event members = codes "{" ++ (quoted (codes "event") ++ (codes ":" ++ (quoted event ++ (members ++ codes "}"))))

-- the members of a statement: its index, the bytes of its piece, its stamp, its level, its package, its own text and its place
abbrev pub line_members : ℕ → ℕ → Option (List ℕ) → Option Level → List ℕ → List ℕ → Option (List ℕ) → List ℕ
line_members index bytes stamp level owner own place =
    number_member (codes "index") index ++ (number_member (codes "bytes") bytes
    ++ (optional_member (codes "target_timestamp") stamp ++ (optional_member (codes "level") (option_map level_name level)
    ++ (text_member (codes "package") owner ++ (text_member (codes "data") own ++ optional_member (codes "place") place)))))

abbrev pub line_object : ℕ → ℕ → Option (List ℕ) → Option Level → List ℕ → List ℕ → Option (List ℕ) → List ℕ
line_object index bytes stamp level owner own place = object (codes "line") (line_members index bytes stamp level owner own place)

-- a piece that gives no line, by its cause and the cause's name
abbrev pub fault_object : ℕ → List ℕ → List ℕ
fault_object cause name = object (codes "fault") (number_member (codes "cause") cause ++ text_member (codes "name") name)

-- bytes that are cut off, in front or at the end, and frames that are missing
abbrev pub front_object : ℕ → List ℕ
front_object bytes = object (codes "front") (number_member (codes "bytes") bytes)

abbrev pub tail_object : ℕ → List ℕ
tail_object bytes = object (codes "tail") (number_member (codes "bytes") bytes)

abbrev pub gap_object : ℕ → List ℕ
gap_object frames = object (codes "gap") (number_member (codes "frames") frames)

abbrev pub loss_name : Bool → List ℕ
loss_name dropped = if dropped then codes "dropped" else codes "cut"

-- a frame that wasn't sent whole: what was done with it, whose statement it is, and the bytes that it needed and that there was room for
abbrev pub loss_object : List ℕ → ℕ → ℕ → ℕ → ℕ → List ℕ
loss_object done writer statement need room =
    object done (number_member (codes "writer") writer ++ (number_member (codes "statement") statement
    ++ (number_member (codes "need") need ++ number_member (codes "room") room)))

-- ---- that an object is one line

-- no byte below the space stands in a text
abbrev pub HasNoBreak : List ℕ → Type 0
HasNoBreak text = list_all (nat_le 32) text ≡ true

-- ---- for private clauses

-- what stands in front of its writer
abbrev pub loss_front : List ℕ → List ℕ
loss_front done = codes "{" ++ (quoted (codes "event") ++ (codes ":" ++ (quoted done ++ (codes "," ++ (quoted (codes "writer") ++ codes ":")))))
