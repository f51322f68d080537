-- What is printed of events in a style: which lines, and in which form.
use Rattle.std.specs.Prelude.{◌≡◌, ◌==◌, ◌&&◌, ℕ, Bool, true, false, List, [], ◌++◌, drop, take, Option, Some, None, refl, if◌then◌else◌}
use Rattle.std.specs.FinMap as map
use Rattle.std.specs.Coded.{Coded, code_by, coded×, coded_list, coded_option, coded_ℕ}
use Rattle.dl_io.specs.Outside.{raised}
use Rattle.defmt_decode.specs.Event.{tells}
use Rattle.defmt_decode.specs.Shown.{shows_line}
use Rattle.defmt_decode.specs.declared.event.Event.{Event}
use Rattle.defmt_decode.specs.declared.event.Event.TheVariants.{Line, Bad, CutFront, CutTail}
use Rattle.defmt_encode.specs.Cause.{fault_name}
use Rattle.defmt_forms.specs.Json.{fault_object, front_object, gap_object, line_object, tail_object}
use Rattle.defmt_forms.specs.Names.{place_part}
use Rattle.defmt_forms.specs.Terminal.{alarm, color_line, warning}
use Rattle.defmt_hooks.specs.Kept.{passes}
use Rattle.defmt_hooks.specs.Levels.{level_of}
use Rattle.defmt_hooks.specs.declared.level.Floor.TheVariants.{At}
use Rattle.defmt_hooks.specs.declared.level.Level.{Level}
use Rattle.defmt_hooks.specs.declared.rules.Rules.{Rules}
use Rattle.defmt_intern.specs.Catalog.{Catalog}
use Rattle.defmt_intern.specs.Entries as entries
use Rattle.defmt_intern.specs.Stamp.{stamp_of}
use Rattle.defmt_intern.specs.Table.{Map}
use Rattle.defmt_intern.specs.declared.entry.Entry.{Entry}
use Rattle.defmt_listen.specs.Heard.{Reporting, Reports, lines_from, recording_limit}
use Rattle.defmt_places.specs.Places.{Map as PlaceMap}
use Rattle.defmt_plan.specs.declared.message.Parts.{Parts}
use Rattle.defmt_recording.specs.Output.{ended, event_text, gap_before, gap_text, is_fault, last_behind}
use Rattle.defmt_values.specs.Entries.{look}
use Rattle.defmt_words.specs.contracts.style.Style.{the_row as style_row}
use Rattle.defmt_words.specs.declared.style.Form.{Form}
use Rattle.defmt_words.specs.declared.style.Form.TheVariants.{Plain, Color, Json}
use Rattle.defmt_words.specs.declared.style.Style.{Style}

-- what lines are printed by: what the words ask, the table, and the places of its indexes in the sources
pub record Look : Type 0 where
  pub style : Style
  pub table : Map
  pub places : PlaceMap

abbrev pub look_by : Style → Map → PlaceMap → Look
look_by style table places = record { style = style; table = table; places = places }

-- ---- a statement's line

abbrev pub entry_level : Option Entry → Option Level
entry_level None = None
entry_level (Some entry) = level_of entry.tag

abbrev pub level_at : Map → ℕ → Option Level
level_at table index = entry_level (look table index)

abbrev pub entry_package : Option Entry → List ℕ
entry_package None = []
entry_package (Some entry) = entry.«package»

abbrev pub package_at : Map → ℕ → List ℕ
package_at table index = entry_package (look table index)

-- a stamp's text, where the line has a level and the table a timestamp's entry
abbrev pub stamp_by : Option ℕ → Option Level → List ℕ → Option (List ℕ)
stamp_by None level text = None
stamp_by (Some at) None text = None
stamp_by (Some at) (Some level) text = Some text

abbrev pub stamp_in : Map → ℕ → Parts → List ℕ → Option (List ℕ)
stamp_in table index parts text = stamp_by (stamp_of table) (level_at table index) (take parts.stamp text)

abbrev pub place_at : PlaceMap → ℕ → Option (List ℕ)
place_at places index = map.get places index

-- A row a form.
abbrev pub text_in_form : Form → Map → PlaceMap → ℕ → Parts → List ℕ → List ℕ
text_in_form Plain table places index parts text = text ++ place_part (place_at places index)
text_in_form Color table places index parts text =
    color_line (stamp_in table index parts text) (level_at table index) (drop parts.front text) (place_at places index)
text_in_form Json table places index parts text =
    line_object index parts.bytes (stamp_in table index parts text) (level_at table index) (package_at table index)
    (drop parts.front text) (place_at places index)

abbrev pub statement_text : Style → Map → PlaceMap → ℕ → Parts → List ℕ → List ℕ
statement_text style table places index parts text = text_in_form style.form table places index parts text

-- ---- what is no statement

-- a row a form
abbrev pub fault_text : Form → ℕ → List ℕ
fault_text Plain cause = event_text (Bad cause)
fault_text Color cause = alarm (event_text (Bad cause))
fault_text Json cause = fault_object cause (fault_name cause)

abbrev pub front_text : Form → ℕ → List ℕ
front_text Plain bytes = event_text (CutFront bytes)
front_text Color bytes = alarm (event_text (CutFront bytes))
front_text Json bytes = front_object bytes

abbrev pub tail_text : Form → ℕ → List ℕ
tail_text Plain bytes = event_text (CutTail bytes)
tail_text Color bytes = alarm (event_text (CutTail bytes))
tail_text Json bytes = tail_object bytes

abbrev pub report_text : Form → ℕ → List ℕ
report_text Plain count = gap_text count
report_text Color count = warning (gap_text count)
report_text Json count = gap_object count

-- ---- an event

-- without its newline
unfoldable pub styled_text : Style → Map → PlaceMap → Event → List ℕ
styled_text style table places (Line index place parts text) = statement_text style table places index parts text
styled_text style table places (Bad cause) = fault_text style.form cause
styled_text style table places (CutFront bytes) = front_text style.form bytes
styled_text style table places (CutTail bytes) = tail_text style.form bytes

-- a line with this index is printed: all but those that rules don't show
abbrev pub prints_index : Option Rules → Map → ℕ → Bool
prints_index None table index = true
prints_index (Some rules) table index = shows_line rules table index

-- and so is every event that is no line
unfoldable pub is_printed : Option Rules → Map → Event → Bool
is_printed only table (Line index place parts text) = prints_index only table index
is_printed only table (Bad cause) = true
is_printed only table (CutFront bytes) = true
is_printed only table (CutTail bytes) = true

-- a report of so many missing frames, where some are
unfoldable pub styled_gap : Form → ℕ → List ℕ
styled_gap form count = if count == 0 then [] else ended (report_text form count)

-- an event's line, and nothing of one that isn't shown
unfoldable pub shown_text : Look → Event → List ℕ
shown_text l event = if is_printed l.style.only l.table event then ended (styled_text l.style l.table l.places event) else []

-- the same behind the report of those that are missing in front of it, where the last line has this place; it stands also where the line
-- isn't shown
unfoldable pub styled_line : Look → Option ℕ → Event → List ℕ
styled_line l last event = styled_gap l.style.form (gap_before last event) ++ shown_text l event

-- each event has its line, behind the one with this place
abbrev pub by_place : Look → Reporting (Option ℕ) Event
by_place l = record {
  line = λ last event. styled_line l last event;
  after = λ last event. last_behind last event;
  is_fault = is_fault;
}

-- what events print behind a line with this place
abbrev pub styled_lines_from : Look → Option ℕ → List Event → List ℕ
styled_lines_from l last events = lines_from (by_place l) last events

-- what a list of events prints
abbrev pub styled_lines : Look → List Event → List ℕ
styled_lines l events = styled_lines_from l None events

-- ---- lines of a level

-- a line of this level is one of that level or of a more severe one, where both are there
abbrev pub reaches : Option Level → Option Level → Bool
reaches (Some least) (Some level) = passes (At least) level
reaches (Some least) None = false
reaches None level = false

-- a line is printed that makes the program fail
unfoldable pub is_failing : Look → Event → Bool
is_failing l (Line index place parts text) = prints_index l.style.only l.table index && reaches l.style.fail_on (level_at l.table index)
is_failing l (Bad cause) = false
is_failing l (CutFront bytes) = false
is_failing l (CutTail bytes) = false

-- a front or a tail, which joining a device that runs and leaving it leave
unfoldable pub is_cut : Event → Bool
is_cut (Line index place parts text) = false
is_cut (Bad cause) = false
is_cut (CutFront bytes) = true
is_cut (CutTail bytes) = true

-- ---- what a reporter keeps

-- what lines are printed by, the place of the last line, where it had one, and how many events were printed that make the program fail,
-- and how many were a front or a tail
pub record Reel : Type 0 where
  pub look : Look
  pub last : Option ℕ
  pub failing : ℕ
  pub cuts : ℕ

abbrev pub reel : Look → Option ℕ → ℕ → ℕ → Reel
reel l last failing cuts = record { look = l; last = last; failing = failing; cuts = cuts }

-- a count, and one more where something is so; it stands still at the last value
abbrev pub counted : ℕ → Bool → ℕ
counted count so = if so then raised count else count

abbrev pub reel_behind : Reel → Event → Reel
reel_behind s event =
    reel s.look (last_behind s.last event) (counted s.failing (is_failing s.look event)) (counted s.cuts (is_cut event))

abbrev pub by_style : Reporting Reel Event
by_style = record {
  line = λ s event. styled_line s.look s.last event;
  after = λ s event. reel_behind s event;
  is_fault = is_fault;
}

-- the most bytes of a recording: a device that runs ends it when it will
abbrev pub limit_of : Bool → ℕ
limit_of false = recording_limit
limit_of true = 18446744073709551614

-- the events of a recording, by a table
abbrev pub styled_reports : Look → Bool → Catalog → Reports Reel Event
styled_reports l live table = record { tells = tells table; reporting = by_style; start = reel l None 0 0; limit = limit_of live }

-- of each line that is printed its text and a newline are, and none is counted
abbrev pub IsWhole : Style → PlaceMap → Type 0
IsWhole style places = (style.form ≡ Plain) × (style.fail_on ≡ None) × (places ≡ map.empty)

-- how the logic stores what a reporter keeps: as its parts
abbrev pub reel_code : Coded Reel
reel_code =
    code_by (Style × (Map × (PlaceMap × (Option ℕ × (ℕ × ℕ)))))
    (coded× style_row.coded (coded× entries.code (coded× (map.code coded_ℕ (coded_list coded_ℕ))
    (coded× (coded_option coded_ℕ) (coded× coded_ℕ coded_ℕ)))))
    (λ s. (s.look.style, (s.look.table, (s.look.places, (s.last, (s.failing, s.cuts))))))
    (λ p. reel (look_by p.0 p.1.0 p.1.1.0) p.1.1.1.0 p.1.1.1.1.0 p.1.1.1.1.1)
    (λ _. refl)
