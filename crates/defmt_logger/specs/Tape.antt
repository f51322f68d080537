-- Tapes: a mark for each statement that was logged, in the order in which the writers acquired the logger.
use Rattle.std.specs.Prelude.{◌≡◌, ℕ, ◌+◌, ◌<◌, ◌≤◌, ◌==◌, List, [], ◌∷◌, ◌++◌, length, Option, Some, None, if◌then◌else◌, slice_get, slice_index_or}
use Rattle.defmt_eager.specs.Line.{eager_line}
use Rattle.defmt_encode.specs.Carry.{stamp_args}
use Rattle.defmt_frames.specs.Frames.{count, frame_at, stamp_number}
use Rattle.defmt_intern.specs.Table.{Map}
use Rattle.defmt_lines.specs.declared.settings.RingMode.{RingMode}
use Rattle.defmt_lines.specs.declared.settings.RingMode.TheVariants.{Block, Skip, Trim}
use Rattle.defmt_logger.specs.declared.mark.Mark.{Mark}
use Rattle.defmt_script.specs.Lawful.{stamp_in}
use Rattle.defmt_script.specs.Script.{Script, statements_by}
use Rattle.defmt_values.specs.declared.value.Statement.{Statement}
use Rattle.shared_work.specs.Places.{AreConsecutive}
use Rattle.rtt_modes.specs.Fates.{part_of}
use Rattle.rtt_modes.specs.declared.fate.Fate.{Fate}
use Rattle.rtt_modes.specs.declared.fate.Fate.TheVariants.{Whole, Dropped, Cut}

-- ---- what was sent

-- the frame of the mark with this number
abbrev pub mark_frame : Script → ℕ → Mark → List ℕ
mark_frame s number m = frame_at s number m.writer m.place m.stamp

-- the bytes of a frame that were sent: all, none, or the first, as the mark's fate says
abbrev pub mark_part : Script → ℕ → Mark → List ℕ
mark_part s number m = part_of (mark_frame s number m) m.fate

-- what was sent for marks of which the first has this number, joined
abbrev pub stream_from : Script → ℕ → List Mark → List ℕ
stream_from s number [] = []
stream_from s number (m ∷ ms) = mark_part s number m ++ stream_from s (number + 1) ms

-- what was sent for the marks of a tape, which are numbered from 0
abbrev pub stream_of : Script → List Mark → List ℕ
stream_of s tape = stream_from s 0 tape

-- ---- lines (defmt book, the display of log frames)

abbrev pub line_with : Map → Option ℕ → Option Statement → List ℕ
line_with table stamp None = []
line_with table stamp (Some stm) = eager_line table (stamp_args stamp) stm.index stm.args

-- the printed line of a mark's statement
unfoldable pub mark_line : Script → Mark → List ℕ
mark_line s m =
    line_with s.table (stamp_in s.settings.stamp m.stamp)
    (slice_get (statements_by s m.writer) m.place)

-- ---- which tapes are lawful

-- the places of a writer's marks, in order
abbrev pub places : ℕ → List Mark → List ℕ
places w [] = []
places w (m ∷ ms) = if m.writer == w then m.place ∷ places w ms else places w ms

-- how many marks a writer has
abbrev pub marks_of : ℕ → List Mark → ℕ
marks_of w [] = 0
marks_of w (m ∷ ms) = if m.writer == w then marks_of w ms + 1 else marks_of w ms

-- Where f bytes are released, a frame behind these marks had room in the ring if its fate is Whole, and else had
-- no more room than its fate says. Equal offsets mean an empty ring, so one byte of its size is never used
-- (SEGGER RTT, the offsets of an up-buffer).
abbrev pub Leaves : Script → List Mark → List ℕ → Fate → ℕ → Type 0
Leaves s before frame Whole f = length (stream_of s before) + length frame + 1 ≤ s.settings.ring + f
Leaves s before frame (Dropped need room) f =
    room + length (stream_of s before) + 1 ≤ s.settings.ring + f
Leaves s before frame (Cut need room) f =
    room + length (stream_of s before) + 1 ≤ s.settings.ring + f

-- the same of each mark of a tape
abbrev pub Released : Script → List Mark → ℕ → Type 0
Released s tape f = (before after : List Mark) (m : Mark) → tape ≡ before ++ m ∷ after
    → Leaves s before (mark_frame s (length before) m) m.fate f

-- A frame that didn't fit behind these marks: its need is its length, the room was less, and the look that told the
-- room found so many bytes released: none that wasn't sent, and no fewer than the marks before need.
pub record Lost (s : Script) (before : List Mark) (frame : List ℕ) (need room : ℕ) : Type 0 where
  pub need_is : need ≡ length frame
  pub less : room < need
  pub found : ℕ
  pub found_is : found + s.settings.ring ≡ room + length (stream_of s before) + 1
  pub within : found ≤ length (stream_of s before)
  pub released : Released s before found

-- whole frames in each mode, dropped ones in skip mode alone, and cut ones in trim mode alone
abbrev pub FateLaw : RingMode → Script → List Mark → List ℕ → Fate → Type 0
FateLaw mode s before frame Whole = Unit {0}
FateLaw mode s before frame (Dropped need room) = (mode ≡ Skip) × Lost s before frame need room
FateLaw mode s before frame (Cut need room) = (mode ≡ Trim) × Lost s before frame need room

-- Each writer's marks have the places 0, 1, 2 and so on, no more than it has statements. The mark number t has the
-- stamp number t. Each fate is one that the mode allows, by the room that was found.
pub record IsLawful (s : Script) (tape : List Mark) : Type 0 where
  pub order : (w : ℕ) → AreConsecutive 0 (places w tape)
  pub within : (w : ℕ) → marks_of w tape ≤ count s w
  pub stamps : (before after : List Mark) (m : Mark) → tape ≡ before ++ m ∷ after
      → m.stamp ≡ stamp_number s (length before)
  pub fates : (before after : List Mark) (m : Mark) → tape ≡ before ++ m ∷ after
      → FateLaw s.settings.mode s before (mark_frame s (length before) m) m.fate

-- ---- what each mark's look found

-- A look that found f bytes released had room for a frame behind these marks if its fate is Whole, and else had just the room
-- that its fate says.
abbrev pub LeftBy : Script → List Mark → List ℕ → Fate → ℕ → Type 0
LeftBy s before frame Whole f = Leaves s before frame Whole f
LeftBy s before frame (Dropped need room) f =
    room + length (stream_of s before) + 1 ≡ s.settings.ring + f
LeftBy s before frame (Cut need room) f =
    room + length (stream_of s before) + 1 ≡ s.settings.ring + f

-- each mark of a tape has a look, which found this number of bytes released, and its fate is by the room that was left
pub record IsLooked (s : Script) (tape : List Mark) (found : List ℕ) : Type 0 where
  pub each : length found ≡ length tape
  pub left : (before after : List Mark) (m : Mark) → tape ≡ before ++ m ∷ after
      → LeftBy s before (mark_frame s (length before) m) m.fate (slice_index_or found (length before) 0)

-- so in skip and trim mode; in blocking mode no room is told
abbrev pub RoomsIn : RingMode → Script → List Mark → List ℕ → Type 0
RoomsIn Block s tape found = Unit {0}
RoomsIn Skip s tape found = IsLooked s tape found
RoomsIn Trim s tape found = IsLooked s tape found
