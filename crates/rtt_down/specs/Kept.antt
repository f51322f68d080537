-- What a bridge keeps between two turns.
use Rattle.std.specs.Prelude.{◌≡◌, ℕ, ◌+◌, ◌*◌, ◌<◌, ◌≤◌, List, [], ◌∷◌, ◌++◌, length, Option, slice_index_or}
use Rattle.defmt_frames.specs.Frames.{pace_of}
use Rattle.defmt_frames.specs.Sites.{HasSites}
use Rattle.defmt_frames.specs.declared.sites.Sites.{Sites}
use Rattle.defmt_hooks.specs.Even.{Pace}
use Rattle.defmt_hooks.specs.declared.level.Level.{Level}
use Rattle.defmt_script.specs.Lawful.{statements_limit}
use Rattle.defmt_script.specs.Script.{Script}
use Rattle.rtt_down.specs.Listening.{Heard}
use Rattle.rtt_down.specs.Orders.{orders}
use Rattle.rtt_down.specs.Reel.{Reel}
use Rattle.rtt_down.specs.Steered.{AreHeard, IsSteered, last_found, stream_of, taken_by, turns_of}
use Rattle.rtt_down.specs.declared.course.Course.{Course}
use Rattle.rtt_down.specs.declared.turn.Turn.{Turn}
use Rattle.rtt_ring.specs.Views.{Down, Up}

-- a bridge: its script, its turns, the end of the ring that frames go up, and that of the ring that orders come down
pub record Sheet : Type 0 where
  pub script : Script
  pub turns : Reel
  pub up : Up
  pub down : Down

-- The turns are steered by the bytes that were got, the ring was sent the frames of those that were sent, and nothing is
-- staged. There was one look down for each turn, which took what it found. The turns name the splits of both ends. There is
-- room for the turns of all statements that a script can have.
pub record IsKept (d : Sheet) : Type 0 where
  pub steered : IsSteered d.script d.turns.turns d.down.got
  pub sent : d.up.sent ≡ stream_of d.script d.turns.turns
  pub staged : d.up.staged ≡ []
  pub looks : d.down.looks ≡ length d.turns.turns
  pub heard : AreHeard d.down.got 0 d.turns.turns d.turns.found
  pub found : last_found 0 d.turns.found ≡ d.down.found
  pub split : d.turns.split ≡ d.up.split
  pub down : d.turns.down ≡ d.down.split
  pub room : length d.turns.turns + d.turns.room ≡ statements_limit

-- ---- for private clauses

-- eight numbers, how many turns each writer had
abbrev pub Counts : List ℕ → List Turn → Type 0
Counts xs turns = (length xs ≡ 8) × ((w : ℕ) → w < 8 → slice_index_or xs w 0 ≡ turns_of w turns)

-- The turns are steered by what was got, of which each took at most 192 bytes; the writers' next places, what was heard,
-- and the room for all statements that a script can have.
pub record Steers (s : Script) (got : List ℕ) (reel : Reel) (places : List ℕ)
    (line : Option (List ℕ)) (seen : ℕ) (floor : Level) : Type 0 where
  pub steered : IsSteered s reel.turns got
  pub counts : Counts places reel.turns
  pub heard : Heard got line seen floor
  pub room : length reel.turns + reel.room ≡ statements_limit
  pub few : length got ≤ 192 * length reel.turns

abbrev pub SteersBy : Script → List ℕ → Course → Type 0
SteersBy s got c = Steers s got c.turns c.places c.heard.ear c.heard.seen c.heard.floor

-- From c to n a turn of the writer w was taken, by one look down, from d to e. It took what the look found, at most 192 bytes,
-- and heard it.
pub record Turned (s : Script) (d e : Down) (c n : Course) (w : ℕ) (t : Turn) : Type 0 where
  pub steers : SteersBy s e.got n
  pub turns : n.turns.turns ≡ c.turns.turns ++ t ∷ []
  pub writer : t.writer ≡ w
  pub place : t.place ≡ slice_index_or c.places w 0
  pub looks : e.looks ≡ d.looks + 1
  pub split : e.split ≡ d.split
  pub taken : List ℕ
  pub got : e.got ≡ d.got ++ taken
  pub count : length e.got ≡ taken_by (length d.got) e.found
  pub reached : length d.got ≤ e.found
  pub seen : t.seen ≡ length (orders e.got)
  pub found : n.turns.found ≡ c.turns.found ++ e.found ∷ []
  pub rings : (n.turns.split ≡ c.turns.split) × (n.turns.down ≡ c.turns.down)

-- what a bridge keeps of its parts: the sheet, the course of its turns, the sites of the script, the numbers of its stamps,
-- and the buffers for a message and a frame
pub record IsWorking (d : Sheet) (course : Course) (sites : Sites) (pace : Pace)
    (message frame : List ℕ) : Type 0 where
  pub kept : IsKept d
  pub steers : SteersBy d.script d.down.got course
  pub sites_are : HasSites d.script sites
  pub pace_is : pace ≡ pace_of d.script.settings.stamp
  pub message_size : length message ≡ 2000
  pub frame_size : length frame ≡ 2288
