-- Turns by orders: each writer's statements come in their order; before each the orders that were sent so far are heard, and
-- the statement is sent where its level is the last order's or a later one.
use Rattle.std.specs.Prelude.{◌≡◌, ℕ, ◌+◌, ◌≤◌, ◌==◌, List, [], ◌∷◌, ◌++◌, length, min, take, if◌then◌else◌}
use Rattle.defmt_frames.specs.Frames.{count, frame_at, stamp_number}
use Rattle.defmt_hooks.specs.declared.level.Level.{Level}
use Rattle.defmt_script.specs.Script.{Script}
use Rattle.rtt_down.specs.Levels.{is_sent, level_at}
use Rattle.rtt_down.specs.Listening.{FloorIs}
use Rattle.rtt_down.specs.Orders.{orders}
use Rattle.rtt_down.specs.declared.turn.Turn.{Turn}
use Rattle.shared_work.specs.Places.{AreConsecutive}

-- ---- which turns are lawful

-- the places of a writer's turns, in order
abbrev pub places : ℕ → List Turn → List ℕ
places w [] = []
places w (t ∷ ts) = if t.writer == w then t.place ∷ places w ts else places w ts

-- how many turns a writer had
abbrev pub turns_of : ℕ → List Turn → ℕ
turns_of w [] = 0
turns_of w (t ∷ ts) = if t.writer == w then turns_of w ts + 1 else turns_of w ts

-- the number of orders that were heard never falls
abbrev pub Rises : ℕ → List Turn → Type 0
Rises from [] = Unit {0}
Rises from (t ∷ ts) = (from ≤ t.seen) × Rises t.seen ts

-- how many the last turn had heard, and this many where there is none
abbrev pub last_seen : ℕ → List Turn → ℕ
last_seen from [] = from
last_seen from (t ∷ ts) = last_seen t.seen ts

-- The turn behind these, of all these orders: it has its number's stamp, its floor is the last order it had heard, and its
-- statement was sent just where its level is the floor or a later one, or it has none.
pub record IsTurn (s : Script) (before : List Turn) (levels : List Level) (t : Turn) : Type 0 where
  pub stamp_is : t.stamp ≡ stamp_number s (length before)
  pub floor_is : FloorIs levels t.seen t.floor
  pub sent_is : t.sent ≡ is_sent (level_at s t.writer t.place) t.floor

-- Each writer's turns have the places 0, 1, 2 and so on, no more than it has statements. What was heard never falls, and
-- at last it is all orders in the bytes that were got. Each turn is one by these orders.
pub record IsSteered (s : Script) (turns : List Turn) (got : List ℕ) : Type 0 where
  pub order : (w : ℕ) → AreConsecutive 0 (places w turns)
  pub within : (w : ℕ) → turns_of w turns ≤ count s w
  pub rises : Rises 0 turns
  pub all_seen : last_seen 0 turns ≡ length (orders got)
  pub each : (before after : List Turn) (t : Turn) → turns ≡ before ++ t ∷ after
      → IsTurn s before (orders got) t

-- ---- what each turn takes

-- how many bytes were taken behind a look that found so many sent down, where n were taken before: all, but at most 192 more
abbrev pub taken_by : ℕ → ℕ → ℕ
taken_by n found = min found (n + 192)

-- a turn that took what its look found, where n bytes were taken before, and has heard the orders in all that was taken
pub record IsHeard (got : List ℕ) (n found : ℕ) (t : Turn) : Type 0 where
  pub reached : n ≤ found
  pub seen_is : t.seen ≡ length (orders (take (taken_by n found) got))

-- Turns whose looks found so many bytes sent down, where n were taken before the first: each took what its look found. Behind
-- the last of them all was taken that was got.
abbrev pub AreHeard : List ℕ → ℕ → List Turn → List ℕ → Type 0
AreHeard got n [] [] = n ≡ length got
AreHeard got n [] (f ∷ fs) = ⊥
AreHeard got n (t ∷ ts) [] = ⊥
AreHeard got n (t ∷ ts) (f ∷ fs) = IsHeard got n f t × AreHeard got (taken_by n f) ts fs

-- what the last look found, and this where there was none
abbrev pub last_found : ℕ → List ℕ → ℕ
last_found n [] = n
last_found n (f ∷ fs) = last_found f fs

-- ---- what is sent

-- the frame of the turn with this number where it was sent, and else nothing
abbrev pub turn_part : Script → ℕ → Turn → List ℕ
turn_part s number t = if t.sent then frame_at s number t.writer t.place t.stamp else []

-- the frames of the turns that were sent, of which the first turn has this number
abbrev pub stream_from : Script → ℕ → List Turn → List ℕ
stream_from s number [] = []
stream_from s number (t ∷ ts) = turn_part s number t ++ stream_from s (number + 1) ts

-- those of turns that are numbered from 0, joined
abbrev pub stream_of : Script → List Turn → List ℕ
stream_of s turns = stream_from s 0 turns
