-- What became of a frame.
use Rattle.std.specs.Prelude.{◌≡◌, ℕ, ◌+◌, ◌<◌, ◌≤◌, true, List, [], ◌++◌, length, take}
use Rattle.rtt_words.specs.History.{IsLoaded}
use Rattle.rtt_ring.specs.Views.{Up, UpKept}
use Rattle.rtt_modes.specs.declared.fate.Fate.{Fate}
use Rattle.rtt_modes.specs.declared.fate.Fate.TheVariants.{Whole, Dropped, Cut}

-- the bytes of a frame that are sent by its fate
abbrev pub part_of : List ℕ → Fate → List ℕ
part_of frame Whole = frame
part_of frame (Dropped need room) = []
part_of frame (Cut need room) = take room frame

-- what skip makes of a frame where its look answered this room
abbrev pub SkippedBy : ℕ → List ℕ → Fate → Type 0
SkippedBy left frame Whole = length frame ≤ left
SkippedBy left frame (Dropped need room) = (need ≡ length frame) × (room ≡ left) × (room < need)
SkippedBy left frame (Cut need room) = ⊥

-- what trim makes of it
abbrev pub TrimmedBy : ℕ → List ℕ → Fate → Type 0
TrimmedBy left frame Whole = length frame ≤ left
TrimmedBy left frame (Dropped need room) = ⊥
TrimmedBy left frame (Cut need room) = (need ≡ length frame) × (room ≡ left) × (room < need)

-- from u to v one look was made, its answer `left` decided the fate, and the fate's part of the frame was sent
pub record ByLook (By : ℕ → List ℕ → Fate → Type 0) (u v : Up) (frame : List ℕ) (fate : Fate) : Type 0 where
  pub left : ℕ
  pub fate_is : By left frame fate
  -- what was put took its room
  pub room : v.room + length (part_of frame fate) ≡ left
  -- where the ring tells how many bytes it found released, the answer follows from that
  pub told : u.tells ≡ true → left + length u.sent + 1 ≡ v.freed + u.size
  pub within : v.freed ≤ length u.sent
  pub sent : v.sent ≡ u.sent ++ part_of frame fate
  pub looks : v.looks ≡ u.looks + 1
  pub kept : UpKept u v
  -- and there the look is one load that was made in this call: behind all that was seen before come the reader's releases
  -- since then, and then this load, which finds what the last of them said
  pub load : u.tells ≡ true → IsLoaded u.seen v.freed v.seen

-- how far a frame has come in block mode, from the end as it was first to the end as it is now
pub record Going (first now : Up) (frame : List ℕ) (at : ℕ) : Type 0 where
  pub within : at ≤ length frame
  pub sent : now.sent ≡ first.sent ++ take at frame
  pub kept : UpKept first now
  pub looks : first.looks ≤ now.looks
