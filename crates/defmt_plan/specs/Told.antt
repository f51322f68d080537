-- What one pass over a whole message leaves.
use Rattle.std.specs.Prelude.{◌≡◌, ◌≤◌, ℕ, List, [], ◌++◌, length, take, Option, Some, None}
use Rattle.std.specs.Str.{IsUtf8}
use Rattle.defmt_grammar.specs.Slots.{slots_of}
use Rattle.defmt_grammar.specs.declared.hint.Hint.TheVariants as hints
use Rattle.defmt_grammar.specs.declared.piece.Piece.{Piece}
use Rattle.defmt_intern.specs.Catalog.{Catalog}
use Rattle.defmt_intern.specs.Stamp.{stamp_of}
use Rattle.defmt_intern.specs.Table.{Map}
use Rattle.defmt_intern.specs.declared.table.Profile.{Profile}
use Rattle.defmt_values.specs.Entries.{places_of}
use Rattle.defmt_values.specs.Fits.{FitsStamp, FitsVals, weigh_vals}
use Rattle.defmt_values.specs.Plain.{Vals}
use Rattle.defmt_values.specs.Sound.{AreSound}
use Rattle.defmt_encode.specs.Carry.{bytes_vals, message_head, stamp_slots}
use Rattle.defmt_encode.specs.Heard.{IsHeard}
use Rattle.defmt_encode.specs.Lengths.{LengthsFit}
use Rattle.defmt_encode.specs.Placed.{HasPlace}
use Rattle.defmt_eager.specs.Answers.{Placed, Puts}
use Rattle.defmt_eager.specs.Line.{eager_line, front_text, level_at, shown_stamp, stamp_text, IsWide}
use Rattle.defmt_eager.specs.Show.{pieces_text, shows}
use Rattle.defmt_plan.specs.Carried.{Carried}
use Rattle.defmt_hints.specs.Written.{Kept}
use Rattle.defmt_plan.specs.declared.leaves.Progress.{Progress}
use Rattle.defmt_plan.specs.declared.message.Head.{Head}
use Rattle.defmt_plan.specs.declared.message.Origin.{Origin}
use Rattle.defmt_plan.specs.declared.message.Parts.{Parts}

-- the index and the place that a message begins with: its head without a stamp
pub record IsHead (profile : Profile) (bytes : List ℕ) (head : Head) : Type 0 where
  pub placed : HasPlace profile head.place
  pub carried : Carried bytes 0 head.read (message_head head.index head.place [])

-- the stamp, where the table has one
pub record StampPassed (t : Map) (bytes : List ℕ) (from to : ℕ) (old : List ℕ) (at : ℕ)
    (new : List ℕ) (end : ℕ) : Type 0 where
  pub stamp : Vals
  pub fits : FitsStamp t (stamp_of t) stamp
  pub sound : AreSound stamp
  pub lengths : LengthsFit t (stamp_slots t (stamp_of t)) stamp
  pub carried : Carried bytes from to (bytes_vals t (stamp_slots t (stamp_of t)) stamp)
  pub written : Placed old at new end (stamp_text t (stamp_of t) stamp)

abbrev pub StampPasses : Option Progress → Map → List ℕ → ℕ → List ℕ → ℕ → List ℕ → Type 0
StampPasses None t bytes from old at new = Kept old at new
StampPasses (Some after) t bytes from old at new =
    StampPassed t bytes from after.read old at new after.written

-- the arguments of a string, with the text of these of its pieces
pub record ArgumentsPassed (t : Map) (all pieces : List Piece) (bytes : List ℕ) (from to : ℕ)
    (old : List ℕ) (at : ℕ) (new : List ℕ) (end : ℕ) : Type 0 where
  pub args : Vals
  pub fits : FitsVals t 16 (places_of all) args
  pub light : weigh_vals t (places_of all) 1 args ≤ 8192
  pub sound : AreSound args
  pub lengths : LengthsFit t (slots_of all) args
  pub carried : Carried bytes from to (bytes_vals t (slots_of all) args)
  pub written : Placed old at new end (pieces_text hints.Plain pieces (shows t args))

abbrev pub PassesArguments : Option Progress → Map → List Piece → List Piece → List ℕ → ℕ
    → List ℕ → ℕ → List ℕ → Type 0
PassesArguments None t all pieces bytes from old at new = Kept old at new
PassesArguments (Some after) t all pieces bytes from old at new =
    ArgumentsPassed t all pieces bytes from after.read old at new after.written

-- A line, which is UTF-8, stands behind what stood in front of a place, and ends at another. What stands behind it isn't as before where a
-- stamp was read that the line doesn't have.
pub record Lined (old : List ℕ) (at : ℕ) (new : List ℕ) (end : ℕ) (line : List ℕ) : Type 0 where
  pub long : length new ≡ length old
  pub within : end ≤ length old
  pub written : take end new ≡ take at old ++ line
  pub utf8 : IsUtf8 line

-- the parts of a line, whose piece has so many bytes
abbrev pub parts_of : Map → ℕ → Vals → ℕ → Parts
parts_of t bytes stamp index = record {
  bytes = bytes;
  stamp = length (shown_stamp t (stamp_of t) stamp (level_at t index));
  front = length (front_text t (stamp_of t) stamp (level_at t index));
}

-- a message that is heard, with its line behind a place
pub record IsTold (t : Catalog) (bytes : List ℕ) (size : ℕ) (origin : Origin) (old : List ℕ)
    (at : ℕ) (new : List ℕ) (end : ℕ) : Type 0 where
  pub stamp : Vals
  pub args : Vals
  pub heard : IsHeard t bytes origin.place stamp origin.index args
  pub narrow : IsWide t.entries stamp origin.index args → ⊥
  pub parts : origin.parts ≡ parts_of t.entries size stamp origin.index
  pub written : Lined old at new end (eager_line t.entries stamp origin.index args)

abbrev pub Tells : Option (Origin × ℕ) → Catalog → List ℕ → ℕ → List ℕ → ℕ → List ℕ → Type 0
Tells None t bytes size old at new = Kept old at new
Tells (Some told) t bytes size old at new = IsTold t bytes size told.0 old at new told.1

-- What stands in front of a text is written behind the stamp's, where there is something; else the text begins at the place
-- where the stamp's did.
abbrev pub Fronts : Option (List ℕ) → Option ℕ → List ℕ → ℕ → ℕ → List ℕ → Type 0
Fronts (Some front) r old stamped at new = Puts r old stamped new front
Fronts None r old stamped at new = (r ≡ Some at) × (new ≡ old)
