-- What a run of a script by threads answers.
use Rattle.std.specs.Prelude.{◌≡◌, ℕ, ◌<◌, ◌≤◌, ◌⊎◌, Bool, true, List, [], ◌++◌, length}
use Rattle.defmt_frames.specs.Frames.{count}
use Rattle.defmt_lines.specs.declared.settings.RingMode.{RingMode}
use Rattle.defmt_lines.specs.declared.settings.RingMode.TheVariants.{Block, Skip, Trim}
use Rattle.defmt_logger.specs.Kept.{LooksIn, Reel}
use Rattle.defmt_logger.specs.Tape.{IsLawful, Released, RoomsIn, marks_of, stream_of}
use Rattle.defmt_logger.specs.declared.mark.Mark.{Mark}
use Rattle.defmt_script.specs.Script.{Script}
use Rattle.rtt_down.specs.Steered.{IsSteered, stream_of as steered_stream}
use Rattle.rtt_down.specs.declared.turn.Turn.{Turn}
use Rattle.rtt_ring.specs.Account.{Account, capped}

-- skip and trim want a ring that tells how many bytes were released
abbrev pub ModeFits : RingMode → Bool → Type 0
ModeFits mode tells = (mode ≡ Block) ⊎ (tells ≡ true)

-- so many bytes hold the stream of any lawful tape of the script
abbrev pub HoldsTapes : Script → ℕ → Type 0
HoldsTapes s room = (tape : List Mark) → IsLawful s tape → length (stream_of s tape) ≤ room

-- and that of any turns which some orders steer
pub record HoldsStreams (s : Script) (room : ℕ) : Type 0 where
  pub tape : HoldsTapes s room
  pub turns : (turns : List Turn) (got : List ℕ) → IsSteered s turns got → length (steered_stream s turns) ≤ room

-- in skip and trim mode what the looks of the tape found released is at most this number of bytes
abbrev pub ReachedIn : RingMode → Script → List Mark → ℕ → Type 0
ReachedIn Block s tape taken = Unit {0}
ReachedIn Skip s tape taken = Released s tape taken
ReachedIn Trim s tape taken = Released s tape taken

-- Every statement is on the lawful tape, its stream went to the ring, and what was captured and the rest are the stream.
-- What was captured is what the reader took, and no look found more released than that. A late reader took nothing. The
-- account is that of the ring to which the statements on the tape were logged, and the looks are those of its end. In skip and
-- trim mode what a mark tells of its room is what its look found.
pub record IsRun (s : Script) (tape : Reel) (account : Account) (captured rest : List ℕ)
    (looks : ℕ) : Type 0 where
  pub lawful : IsLawful s tape.marks
  pub all : (w : ℕ) → w < 8 → marks_of w tape.marks ≡ count s w
  pub sends : account.sent ≡ stream_of s tape.marks
  pub takes : account.got ≡ captured
  pub whole : account.sent ≡ captured ++ rest
  pub reach : ReachedIn s.settings.mode s tape.marks (length account.got)
  pub late : s.settings.late ≡ true → account.got ≡ []
  pub looked : LooksIn s.settings.mode (length tape.marks) looks
  pub split : account.split ≡ tape.split
  pub counted : looks ≡ capped tape.looks
  pub rooms : RoomsIn s.settings.mode s tape.marks tape.found
