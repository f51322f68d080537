-- The plain lines of events, and the gaps between them.
use Rattle.std.specs.Prelude.{◌==◌, ℕ, Bool, true, false, List, [], ◌∷◌, ◌++◌, Option, Some, None, codes, if◌then◌else◌}
use Rattle.std.specs.Fmt.{decimal}
use Rattle.defmt_encode.specs.Cause.{fault_name}
use Rattle.defmt_decode.specs.declared.event.Event.{Event}
use Rattle.defmt_decode.specs.declared.event.Event.TheVariants.{Line, Bad, CutFront, CutTail}
use Rattle.defmt_decode.specs.Gap.{gap_of}

-- a text and a newline
abbrev pub ended : List ℕ → List ℕ
ended text = text ++ 10 ∷ []

-- ---- events

-- without its newline: the line of a statement, the number and the name of a piece's fault, how many bytes were cut off
abbrev pub event_text : Event → List ℕ
event_text (Line index place parts text) = text
event_text (Bad cause) = codes "-- E" ++ decimal cause ++ codes " " ++ fault_name cause
event_text (CutFront bytes) = codes "-- front " ++ decimal bytes
event_text (CutTail bytes) = codes "-- tail " ++ decimal bytes

-- all but lines are faults
unfoldable pub is_fault : Event → Bool
is_fault (Line index place parts text) = false
is_fault (Bad cause) = true
is_fault (CutFront bytes) = true
is_fault (CutTail bytes) = true

-- ---- gaps

-- how many frames are missing between two lines, where both have a place
abbrev pub gap_between : Option ℕ → Option ℕ → ℕ
gap_between (Some last) (Some next) = gap_of last next
gap_between (Some last) None = 0
gap_between None next = 0

-- how many are missing in front of an event, where the last line has this place
unfoldable pub gap_before : Option ℕ → Event → ℕ
gap_before last (Line index place parts text) = gap_between last place
gap_before last (Bad cause) = 0
gap_before last (CutFront bytes) = 0
gap_before last (CutTail bytes) = 0

-- the place of the last line, behind an event
unfoldable pub last_behind : Option ℕ → Event → Option ℕ
last_behind last (Line index place parts text) = place
last_behind last (Bad cause) = last
last_behind last (CutFront bytes) = last
last_behind last (CutTail bytes) = last

abbrev pub gap_text : ℕ → List ℕ
gap_text count = codes "-- gap " ++ decimal count

-- a report of missing frames, where some are
abbrev pub gap_line : ℕ → List ℕ
gap_line count = if count == 0 then [] else ended (gap_text count)
