-- What the parts of a stream of frames tell (defmt book, the encoding rzcobs and the log frame).
use Rattle.std.specs.Prelude.{◌≡◌, ◌<◌, ◌≤◌, ◌||◌, ℕ, Bool, nat_lt, List, length, take, Option, Some, None, Ok, Err, if◌then◌else◌}
use Rattle.std.specs.Str.{IsUtf8}
use Rattle.rzcobs_core.specs.Blocks.{Blocks, IsNoCode}
use Rattle.defmt_framing.specs.Notices.{HasText, told_by}
use Rattle.defmt_framing.specs.Told.{Tells, of_piece, events, begun}
use Rattle.defmt_framing.specs.Decoded.{decoded}
use Rattle.defmt_intern.specs.Catalog.{Catalog}
use Rattle.defmt_intern.specs.Table.{Map}
use Rattle.defmt_intern.specs.declared.table.Profile.{Profile}
use Rattle.defmt_values.specs.Plain.{Vals}
use Rattle.defmt_eager.specs.Line.{stamp_text, eager_line, IsWide}
use Rattle.defmt_intern.specs.Stamp.{stamp_of}
use Rattle.defmt_eager.specs.Show.{eager_text}
use Rattle.defmt_encode.specs.Cause.{cause_number}
use Rattle.defmt_encode.specs.Heard.{IsHeard}
use Rattle.defmt_encode.specs.Met.{IsMet}
use Rattle.defmt_encode.specs.Placed.{HasPlace}
use Rattle.defmt_encode.specs.Read.{Read, message_at}
use Rattle.defmt_decode.specs.declared.event.Event.{Event}
use Rattle.defmt_decode.specs.declared.event.Event.TheVariants.{Line, Bad, CutFront, CutTail}
use Rattle.defmt_decode.specs.declared.reader.Refusal.TheVariants.{Cobs, Long, Wide}
use Rattle.defmt_decode.specs.Refusal.{refused}
use Rattle.defmt_framing.specs.declared.notice.Notice.{Notice}
use Rattle.defmt_framing.specs.declared.notice.Notice.TheVariants as notices
use Rattle.defmt_plan.specs.Told.{parts_of}
use Rattle.defmt_plan.specs.declared.message.Origin.{Origin}

-- ---- the event of a piece

-- A piece of more than 65,536 bytes is too long. Another is read as a code, and what it stands for
-- as a message: a line is told where a stamp and a statement are heard whose texts aren't too wide.
pub data IsEventOf (t : Catalog) (piece : List ℕ) : Event → Type 0 where
  too_long : 65536 < length piece → IsEventOf t piece (refused Long)
  no_code : length piece ≤ 65536 → IsNoCode piece → IsEventOf t piece (refused Cobs)
  line_told : (bytes : List ℕ) (place : Option ℕ) (stamp : Vals) (index : ℕ) (vs : Vals) → length piece ≤ 65536
      → Blocks piece bytes → IsHeard t bytes place stamp index vs → (IsWide t.entries stamp index vs → ⊥)
      → IsEventOf t piece (Line index place (parts_of t.entries (length piece) stamp index) (eager_line t.entries stamp index vs))
  too_wide : (bytes : List ℕ) (place : Option ℕ) (stamp : Vals) (index : ℕ) (vs : Vals) → length piece ≤ 65536
      → Blocks piece bytes → IsHeard t bytes place stamp index vs → IsWide t.entries stamp index vs
      → IsEventOf t piece (refused Wide)
  not_heard : (bytes : List ℕ) (cause : ℕ) → length piece ≤ 65536
      → Blocks piece bytes → IsMet t bytes cause → IsEventOf t piece (Bad cause)

-- a line has a place exactly in the second profile
abbrev pub PlaceSuits : Profile → Event → Type 0
PlaceSuits p (Line index place parts text) = HasPlace p place
PlaceSuits p (Bad cause) = Unit {0}
PlaceSuits p (CutFront bytes) = Unit {0}
PlaceSuits p (CutTail bytes) = Unit {0}

-- ---- the same as a function

-- the text of the stamp or of the statement has more than 65,536 bytes
abbrev pub is_wide : Map → Vals → ℕ → Vals → Bool
is_wide t stamp index vs =
    nat_lt 65536 (length (stamp_text t (stamp_of t) stamp)) || nat_lt 65536 (length (eager_text t index vs))

-- what is told of a place, a stamp and a statement that are heard in a piece of so many bytes
abbrev pub of_heard : Catalog → ℕ → Option ℕ → Vals → ℕ → Vals → Event
of_heard t size place stamp index vs =
    if is_wide t.entries stamp index vs then refused Wide
    else Line index place (parts_of t.entries size stamp index) (eager_line t.entries stamp index vs)

-- the place, the stamp, the index and the arguments that are heard in bytes, or the cause that is met
unfoldable pub read_of : Catalog → List ℕ → Read (Option ℕ × Vals × ℕ × Vals)
read_of t bytes = message_at t bytes

-- what is told of a message that was read, or refused
abbrev pub of_read : Catalog → ℕ → Read (Option ℕ × Vals × ℕ × Vals) → Event
of_read t size (Ok heard) = of_heard t size heard.0 heard.1 heard.2 heard.3
of_read t size (Err cause) = Bad (cause_number cause)

-- what is told of the bytes that a piece stands for as a code, where it is one
abbrev pub of_code : Catalog → ℕ → Option (List ℕ) → Event
of_code t size None = refused Cobs
of_code t size (Some bytes) = of_read t size (read_of t bytes)

-- what each part of a stream tells
unfoldable pub tells : Catalog → Tells Event
tells t = record {
  piece = λ piece. of_code t (length piece) (decoded piece);
  long = refused Long;
  cut_front = λ n. CutFront n;
  cut_tail = λ n. CutTail n;
}

abbrev pub event_of : Catalog → List ℕ → Event
event_of t piece = of_piece (tells t) piece

-- the line with this text
abbrev pub line_with : Origin → List ℕ → Event
line_with origin text = Line origin.index origin.place origin.parts text

-- the text of a line at the front of a buffer is UTF-8
abbrev pub IsPrinted : List ℕ → Notice Event Origin → Type 0
IsPrinted buffer notices.Nothing = Unit {0}
IsPrinted buffer (notices.Event event) = Unit {0}
IsPrinted buffer (notices.Line origin size) = IsUtf8 (take size buffer)

-- a notice tells an event, with the text of a line at the front of a buffer
pub record IsNotice (buffer : List ℕ) (event : Event) (notice : Notice Event Origin) : Type 0 where
  pub told : told_by line_with buffer notice ≡ Some event
  pub text : HasText buffer notice
  pub utf8 : IsPrinted buffer notice

-- ---- the events of a stream

-- a cut front where the front isn't empty, the events of the pieces, a cut tail where the tail
-- isn't empty
abbrev pub events_of : Catalog → List ℕ → List Event
events_of t stream = events (tells t) stream

-- those of the front and the pieces alone; none where there is no zero
abbrev pub begun_of : Catalog → List ℕ → List Event
begun_of t stream = begun (tells t) stream
