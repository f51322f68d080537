-- What the host tells of what was sent.
use Rattle.std.specs.Prelude.{◌≡◌, ◌+◌, ℕ, Bool, true, false, List, [], ◌∷◌, ◌++◌, length, map, Option, Some, None, if◌then◌else◌}
use Rattle.defmt_decode.specs.Event.{events_of}
use Rattle.defmt_decode.specs.declared.event.Event.{Event}
use Rattle.defmt_decode.specs.declared.event.Event.TheVariants.{Line, Bad, CutFront, CutTail}
use Rattle.defmt_decode.specs.Sent.{Sent, code_of}
use Rattle.defmt_encode.specs.Carry.{stamp_args}
use Rattle.defmt_encode.specs.Placed.{place_in}
use Rattle.defmt_hooks.specs.declared.rules.Rules.{Rules}
use Rattle.defmt_intern.specs.Catalog.{Catalog}
use Rattle.defmt_intern.specs.declared.table.Profile.{Profile}
use Rattle.defmt_lines.specs.declared.settings.RingMode.{RingMode}
use Rattle.defmt_lines.specs.declared.settings.RingMode.TheVariants.{Block, Skip, Trim}
use Rattle.defmt_logger.specs.Tape.{mark_line, stream_from, stream_of}
use Rattle.defmt_logger.specs.declared.mark.Mark.{Mark}
use Rattle.defmt_plan.specs.Told.{parts_of}
use Rattle.defmt_plan.specs.declared.message.Parts.{Parts}
use Rattle.defmt_print.specs.Printed.{mark_statement}
use Rattle.defmt_print.specs.Shown.{kept_line, shows_mark, tape_lines_by}
use Rattle.defmt_recording.specs.Output.{gap_between, gap_line, last_behind}
use Rattle.defmt_recording.specs.Shown.{event_lines_by, event_lines_from}
use Rattle.defmt_script.specs.Lawful.{stamp_in}
use Rattle.defmt_script.specs.Script.{Script}
use Rattle.defmt_values.specs.declared.value.Statement.{Statement}
use Rattle.rtt_down.specs.declared.turn.Turn.{Turn}
use Rattle.rtt_modes.specs.declared.fate.Fate.{Fate}
use Rattle.rtt_modes.specs.declared.fate.Fate.TheVariants.{Whole, Dropped, Cut}

-- the table of a script as the host has it
abbrev pub catalog_of : Script → Catalog
catalog_of s = record { entries = s.table; profile = s.settings.profile }

-- ---- the frames that were sent whole

-- a statement as it is sent for a mark with this number and this stamp
abbrev pub sent_of : Script → ℕ → ℕ → Statement → Sent
sent_of s number stamp stm = record {
  place = place_in s.settings.profile number;
  stamp = stamp_args (stamp_in s.settings.stamp stamp);
  index = stm.index;
  args = stm.args;
}

-- the parts of its line
abbrev pub parts_at : Script → ℕ → ℕ → Statement → Parts
parts_at s number stamp stm =
    parts_of s.table (length (code_of (catalog_of s) (sent_of s number stamp stm))) (stamp_args (stamp_in s.settings.stamp stamp)) stm.index

-- the line of such a frame, with the index of its statement, its place, its parts and its statement's eager line
abbrev pub event_by : Fate → Option ℕ → Option Statement → (Statement → Parts) → List ℕ → List Event
event_by Whole place (Some stm) parts line = Line stm.index place (parts stm) line ∷ []
event_by fate place statement parts line = []

-- of the mark with this number
abbrev pub mark_events : Script → ℕ → Mark → List Event
mark_events s number m = event_by m.fate (place_in s.settings.profile number) (mark_statement s m) (parts_at s number m.stamp) (mark_line s m)

-- of marks of which the first has this number, in their order
abbrev pub whole_from : Script → ℕ → List Mark → List Event
whole_from s number [] = []
whole_from s number (m ∷ ms) = mark_events s number m ++ whole_from s (number + 1) ms

-- of the marks of a tape
abbrev pub whole_events : Script → List Mark → List Event
whole_events s tape = whole_from s 0 tape

-- a frame that was sent whole
abbrev pub IsWhole : Mark → Type 0
IsWhole m = m.fate ≡ Whole

-- ---- each of them among what was sent beside it

-- what is told of all that was sent before a frame, with the zero that begins it
abbrev pub events_before : Script → List Mark → List Event
events_before s before = events_of (catalog_of s) (stream_of s before ++ 0 ∷ [])

-- what is told of all that was sent after a frame, with the zero that ends it, where the next mark has this number
abbrev pub events_after : Script → ℕ → List Mark → List Event
events_after s number after = events_of (catalog_of s) (0 ∷ stream_from s number after)

-- each frame that was sent whole gives its line, between what is told of all before it and of all after it
abbrev pub HaveWhole : Script → List Mark → List Event → Type 0
HaveWhole s tape events = (before after : List Mark) (m : Mark) → tape ≡ before ++ m ∷ after → IsWhole m
    → events ≡ events_before s before ++ (mark_events s (length before) m ++ events_after s (length before + 1) after)

-- the place of the last line of some events, behind a line with this place
abbrev pub place_behind : Option ℕ → List Event → Option ℕ
place_behind last [] = last
place_behind last (event ∷ events) = place_behind (last_behind last event) events

-- What is printed of them, by any rules and by none: in such a frame's place its line, where it is shown, behind a report of how many
-- are missing since the line before, by the places of both.
abbrev pub PrintWhole : Script → List Mark → List Event → Type 0
PrintWhole s tape events = (only : Option Rules) (before after : List Mark) (m : Mark) → tape ≡ before ++ m ∷ after → IsWhole m
    → let place = place_in s.settings.profile (length before) in
    event_lines_by only s.table events
    ≡ event_lines_by only s.table (events_before s before)
    ++ ((gap_line (gap_between (place_behind None (events_before s before)) place) ++ kept_line (shows_mark only s m) (mark_line s m))
    ++ event_lines_from only s.table place (events_after s (length before + 1) after))

-- In blocking and skip mode there is a line with its mark's place for each frame that was sent whole, and nothing else. In trim mode,
-- where what was sent of the cut frames stands between them, each of them has its line in its place.
abbrev pub LinesIn : RingMode → Script → List Mark → List Event → Type 0
LinesIn Block s tape events = events ≡ whole_events s tape
LinesIn Skip s tape events = events ≡ whole_events s tape
LinesIn Trim s tape events = HaveWhole s tape events

-- In blocking and skip mode what is printed of them, by any rules and by none, is what the tape prints, in profile Two with the
-- gaps of the tape. In trim mode the line of each frame that was sent whole is printed in its place.
abbrev pub GapsIn : RingMode → Profile → Script → List Mark → List Event → Type 0
GapsIn Block profile s tape events = (only : Option Rules) → event_lines_by only s.table events ≡ tape_lines_by profile only s tape
GapsIn Skip profile s tape events = (only : Option Rules) → event_lines_by only s.table events ≡ tape_lines_by profile only s tape
GapsIn Trim profile s tape events = PrintWhole s tape events

-- ---- the turns that were sent

-- the mark that such a turn would have on a tape
abbrev pub turn_mark : Turn → Mark
turn_mark t = record { writer = t.writer; place = t.place; stamp = t.stamp; fate = Whole }

-- of turns of which the first has this number, in their order: the line of each that was sent, with the place of its number and
-- its statement's eager line at its stamp, and nothing of a turn that wasn't sent
abbrev pub turn_events_from : Script → ℕ → List Turn → List Event
turn_events_from s number [] = []
turn_events_from s number (t ∷ ts) = (if t.sent then mark_events s number (turn_mark t) else []) ++ turn_events_from s (number + 1) ts

-- of the turns of a run under orders
abbrev pub turn_events : Script → List Turn → List Event
turn_events s turns = turn_events_from s 0 turns

-- what was sent of a turn, as the fate of its frame: one of which nothing was sent is a dropped one
abbrev pub fate_by : Bool → Fate
fate_by true = Whole
fate_by false = Dropped 0 0

-- the mark that a turn would have on a tape
abbrev pub mark_of : Turn → Mark
mark_of t = record (turn_mark t) { fate = fate_by t.sent }

-- What is printed of the lines of turns, by any rules and by none, is what a tape of their marks prints: in profile Two the gaps count
-- the turns that weren't sent.
abbrev pub PrintTurns : Script → List Turn → List Event → Type 0
PrintTurns s turns events = (only : Option Rules) → event_lines_by only s.table events ≡ tape_lines_by s.settings.profile only s (map mark_of turns)

-- ---- two lines, and what stands between them

-- the line of a frame with this place
abbrev pub line_at : ℕ → ℕ → Parts → List ℕ → Event
line_at index place parts text = Line index (Some place) parts text

-- no line among them has a place
abbrev pub HaveNoPlaces : List Event → Type 0
HaveNoPlaces [] = Unit {0}
HaveNoPlaces (Line index None parts text ∷ events) = HaveNoPlaces events
HaveNoPlaces (Line index (Some place) parts text ∷ events) = ⊥
HaveNoPlaces (Bad cause ∷ events) = HaveNoPlaces events
HaveNoPlaces (CutFront bytes ∷ events) = HaveNoPlaces events
HaveNoPlaces (CutTail bytes ∷ events) = HaveNoPlaces events

-- none of them is a line
abbrev pub AreNoLines : List Event → Type 0
AreNoLines [] = Unit {0}
AreNoLines (Line index place parts text ∷ events) = ⊥
AreNoLines (Bad cause ∷ events) = AreNoLines events
AreNoLines (CutFront bytes ∷ events) = AreNoLines events
AreNoLines (CutTail bytes ∷ events) = AreNoLines events

abbrev pub WasDropped : Fate → Type 0
WasDropped Whole = ⊥
WasDropped (Dropped need room) = Unit {0}
WasDropped (Cut need room) = ⊥

-- frames of which nothing was sent
abbrev pub WereDropped : List Mark → Type 0
WereDropped [] = Unit {0}
WereDropped (m ∷ ms) = WasDropped m.fate × WereDropped ms
