-- What contracts see of a tape and of a desk, and what a desk keeps.
use Rattle.std.specs.Prelude.{◌≡◌, ℕ, ◌+◌, ◌<◌, ◌≤◌, true, List, [], ◌∷◌, ◌++◌, length, slice_index_or}
use Rattle.defmt_frames.specs.Frames.{pace_of, stamp_number}
use Rattle.defmt_frames.specs.Sites.{HasSites}
use Rattle.defmt_frames.specs.declared.sites.Sites.{Sites}
use Rattle.defmt_hooks.specs.Even.{Pace}
use Rattle.defmt_lines.specs.declared.settings.RingMode.{RingMode}
use Rattle.defmt_lines.specs.declared.settings.RingMode.TheVariants.{Block, Skip, Trim}
use Rattle.defmt_logger.specs.Tape.{IsLawful, Released, RoomsIn, marks_of, stream_of}
use Rattle.defmt_logger.specs.declared.mark.Mark.{Mark}
use Rattle.defmt_script.specs.Lawful.{statements_limit}
use Rattle.defmt_script.specs.Script.{Script}
use Rattle.rtt_modes.specs.Fates.{ByLook, SkippedBy, TrimmedBy}
use Rattle.rtt_modes.specs.declared.fate.Fate.{Fate}
use Rattle.rtt_modes.specs.declared.fate.Fate.TheVariants.{Whole}
use Rattle.rtt_ring.specs.Views.{Up, UpKept}

-- a tape: its marks, for how many more it has room, the name of the split that its end is from, how many looks this end
-- made, and for each mark how many bytes the last look for it found released
pub record Reel : Type 0 where
  pub marks : List Mark
  pub room : ℕ
  pub split : List ℕ
  pub looks : ℕ
  pub found : List ℕ

-- a desk: its script, its tape, and the end of the ring that it writes to
pub record Sheet : Type 0 where
  pub script : Script
  pub tape : Reel
  pub up : Up

-- ---- the modes

-- in skip and trim mode the end tells how many bytes were released
abbrev pub TellsIn : RingMode → Up → Type 0
TellsIn Block u = Unit {0}
TellsIn Skip u = u.tells ≡ true
TellsIn Trim u = u.tells ≡ true

-- from u to v the whole frame was sent, by at least one look
pub record SendsAll (u v : Up) (frame : List ℕ) (fate : Fate) : Type 0 where
  pub whole : fate ≡ Whole
  pub sent : v.sent ≡ u.sent ++ frame
  pub looks : u.looks + 1 ≤ v.looks
  pub kept : UpKept u v

-- what a mode makes of a frame, from u to v
abbrev pub SendsIn : RingMode → Up → Up → List ℕ → Fate → Type 0
SendsIn Block u v frame fate = SendsAll u v frame fate
SendsIn Skip u v frame fate = ByLook SkippedBy u v frame fate
SendsIn Trim u v frame fate = ByLook TrimmedBy u v frame fate

-- ---- what a desk keeps

-- the last of these numbers, where n comes before them all
abbrev pub last_from : ℕ → List ℕ → ℕ
last_from n [] = n
last_from n (x ∷ xs) = last_from x xs

-- a tape is that of an end: it is from the same split, and has its looks and what the last of them found
pub record IsOf (tape : Reel) (u : Up) : Type 0 where
  pub split : tape.split ≡ u.split
  pub looks : tape.looks ≡ u.looks
  pub latest : last_from 0 tape.found ≡ u.freed

-- in skip and trim mode what the looks of the tape found released is at most what the end knows
abbrev pub Behind : RingMode → Script → List Mark → Up → Type 0
Behind Block s tape u = Unit {0}
Behind Skip s tape u = (u.tells ≡ true) × Released s tape u.freed
Behind Trim s tape u = (u.tells ≡ true) × Released s tape u.freed

-- one look for each mark, and in blocking mode at least one
abbrev pub LooksIn : RingMode → ℕ → ℕ → Type 0
LooksIn Block marks looks = marks ≤ looks
LooksIn Skip marks looks = looks ≡ marks
LooksIn Trim marks looks = looks ≡ marks

-- The tape is lawful, and that of the end. The ring was sent its stream, and nothing is staged. What each mark tells of its
-- room is what its look found. The tape's room is for all statements that a script can have.
pub record IsKept (d : Sheet) : Type 0 where
  pub lawful : IsLawful d.script d.tape.marks
  pub sent : d.up.sent ≡ stream_of d.script d.tape.marks
  pub staged : d.up.staged ≡ []
  pub size : d.up.size ≡ d.script.settings.ring
  pub behind : Behind d.script.settings.mode d.script d.tape.marks d.up
  pub looks : LooksIn d.script.settings.mode (length d.tape.marks) d.up.looks
  pub room : length d.tape.marks + d.tape.room ≡ statements_limit
  pub tape : IsOf d.tape d.up
  pub rooms : RoomsIn d.script.settings.mode d.script d.tape.marks d.tape.found

-- eight numbers, how many marks each writer has
abbrev pub Counts : List ℕ → List Mark → Type 0
Counts xs tape = (length xs ≡ 8) × ((w : ℕ) → w < 8 → slice_index_or xs w 0 ≡ marks_of w tape)

-- the next mark of a writer
abbrev pub next_mark : Script → List Mark → ℕ → Fate → Mark
next_mark s tape w fate = record {
  writer = w;
  place = marks_of w tape;
  stamp = stamp_number s (length tape);
  fate = fate;
}

-- what a desk keeps of its parts: the sheet, the sites of the script, the writers' next places, the numbers of its stamps,
-- and the buffers for a message and a frame
pub record IsWorking (d : Sheet) (sites : Sites) (places : List ℕ) (pace : Pace)
    (message frame : List ℕ) : Type 0 where
  pub kept : IsKept d
  pub sites_are : HasSites d.script sites
  pub counts : Counts places d.tape.marks
  pub pace_is : pace ≡ pace_of d.script.settings.stamp
  pub message_size : length message ≡ 2000
  pub frame_size : length frame ≡ 2288
