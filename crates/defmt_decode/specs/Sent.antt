-- Statements that are sent as frames.
use Rattle.std.specs.Prelude.{◌+◌, ◌≤◌, ℕ, List, [], ◌∷◌, ◌++◌, length, map, nat_le, Option, if◌then◌else◌}
use Rattle.rzcobs_core.specs.Canon.{canon}
use Rattle.defmt_framing.specs.Frames.{frame_of, frames}
use Rattle.defmt_framing.specs.Told.{told_size, cut_off}
use Rattle.defmt_intern.specs.Catalog.{Catalog}
use Rattle.defmt_values.specs.Fits.{Fits, FitsStamp, IsLogged}
use Rattle.defmt_values.specs.Plain.{Vals}
use Rattle.defmt_eager.specs.Line.{eager_line, IsWide}
use Rattle.defmt_encode.specs.Carry.{message_of}
use Rattle.defmt_encode.specs.Placed.{HasPlace}
use Rattle.defmt_values.specs.Sound.{AreSound}
use Rattle.defmt_intern.specs.Stamp.{stamp_of}
use Rattle.defmt_plan.specs.Told.{parts_of}
use Rattle.defmt_decode.specs.declared.event.Event.{Event}
use Rattle.defmt_decode.specs.declared.event.Event.TheVariants.{Line, CutFront, CutTail}

-- a statement with its place and its stamp
pub record Sent : Type 0 where
  pub place : Option ℕ
  pub stamp : Vals
  pub index : ℕ
  pub args : Vals

-- the code of its message
abbrev pub code_of : Catalog → Sent → List ℕ
code_of t s = canon (message_of t.entries s.place s.stamp s.index s.args)

-- its line
abbrev pub line_of : Catalog → Sent → Event
line_of t s =
    Line s.index s.place (parts_of t.entries (length (code_of t s)) s.stamp s.index)
    (eager_line t.entries s.stamp s.index s.args)

-- There is a place exactly in the second profile, the stamp and the statement fit, the statement is logged, their texts aren't
-- too wide, and the code has at most 65,536 bytes.
pub record IsSent (t : Catalog) (s : Sent) : Type 0 where
  pub placed : HasPlace t.profile s.place
  pub stamp_fits : FitsStamp t.entries (stamp_of t.entries) s.stamp
  pub fits : Fits t.entries s.index s.args
  pub logged : IsLogged t.entries s.index
  pub stamp_sound : AreSound s.stamp
  pub sound : AreSound s.args
  pub narrow : IsWide t.entries s.stamp s.index s.args → ⊥
  pub short : length (code_of t s) ≤ 65536

abbrev pub AreSent : Catalog → List Sent → Type 0
AreSent t [] = Unit {0}
AreSent t (s ∷ sent) = IsSent t s × AreSent t sent

-- their frames, joined
abbrev pub stream_of : Catalog → List Sent → List ℕ
stream_of t sent = frames (map (code_of t) sent)

-- those whose frames begin at or after a place, where the first of all begins at another
unfoldable pub sent_from : Catalog → ℕ → ℕ → List Sent → List Sent
sent_from t place at [] = []
sent_from t place at (s ∷ sent) =
    (if nat_le place at then s ∷ [] else [])
    ++ sent_from t place (at + length (frame_of (code_of t s))) sent

-- those whose frames end at or before it
unfoldable pub sent_by : Catalog → ℕ → ℕ → List Sent → List Sent
sent_by t place at [] = []
sent_by t place at (s ∷ sent) =
    (if nat_le (at + length (frame_of (code_of t s))) place then s ∷ [] else [])
    ++ sent_by t place (at + length (frame_of (code_of t s))) sent

-- the event of a front that was cut off, none of an empty one
abbrev pub front_event : List ℕ → List Event
front_event front = cut_off (λ n. CutFront (told_size n)) front

-- the event of a tail
abbrev pub tail_event : List ℕ → List Event
tail_event tail = cut_off (λ n. CutTail (told_size n)) tail
