-- What contracts see of the two ends of a ring, and what each call does to it.
use Rattle.std.specs.Prelude.{◌≡◌, ℕ, ◌+◌, ◌-◌, ◌<◌, ◌≤◌, Bool, true, List, [], ◌++◌, length}
use Rattle.rtt_words.specs.declared.view.Access.{Access}
use Rattle.rtt_words.specs.History.{IsLoaded, last_loaded, loads_in}

-- the upper end. Numbers of bytes are since the ring was made
pub record Up : Type 0 where
  -- the name of the split that the end comes from
  pub split : List ℕ
  -- the ring's size in bytes
  pub size : ℕ
  -- all bytes published so far
  pub sent : List ℕ
  -- the bytes put and not published
  pub staged : List ℕ
  -- how many bytes may be put
  pub room : ℕ
  -- how many looks were made
  pub looks : ℕ
  -- how many bytes the last look found released; 0 before the first look, and where the ring doesn't tell it
  pub freed : ℕ
  -- whether the ring tells how many bytes were released
  pub tells : Bool
  -- where it tells it: each release of the reader and each look of this end, in the order in which they were made, up to
  -- the last look
  pub seen : List Access

-- the lower end
pub record Down : Type 0 where
  pub split : List ℕ
  pub size : ℕ
  -- all bytes taken so far
  pub got : List ℕ
  -- how many bytes the last look found published
  pub found : ℕ
  pub looks : ℕ

-- the two ends of a ring that is new
abbrev pub new_up : List ℕ → ℕ → Bool → Up
new_up split size tells =
    record { split = split; size = size; sent = []; staged = []; room = 0; looks = 0; freed = 0; tells = tells; seen = [] }

abbrev pub new_down : List ℕ → ℕ → Down
new_down split size = record { split = split; size = size; got = []; found = 0; looks = 0 }

-- what holds of every upper end: no byte is released that wasn't sent, and equal offsets mean an empty ring, so
-- at most one byte fewer than the size is staged or room, and where the ring tells what is released, in use. There
-- the room is what that leaves, after the first look
pub record IsBounded (u : Up) : Type 0 where
  pub small : length u.staged + u.room + 1 ≤ u.size
  pub within : u.freed ≤ length u.sent
  pub fits : u.tells ≡ true → length u.sent + length u.staged + 1 ≤ u.freed + u.size
  pub leaves : u.tells ≡ true → 0 < u.looks → u.room + length u.sent + length u.staged + 1 ≡ u.freed + u.size
  -- the looks are the loads that were seen, and the last of them found what is free
  pub loads : u.tells ≡ true → loads_in u.seen ≡ u.looks
  pub last : u.tells ≡ true → last_loaded 0 u.seen ≡ u.freed

-- a look of the upper end, from u to v: looks, room, freed and seen change, and nothing else
pub record Looked (u v : Up) : Type 0 where
  pub same : v ≡ record u { looks = u.looks + 1; room = v.room; freed = v.freed; seen = v.seen }
  -- the look finds how many bytes the reader had released when it was made: behind all that was seen come the reader's
  -- releases since then, and then this one look, which finds what the last of them said
  pub load : u.tells ≡ true → IsLoaded u.seen v.freed v.seen
  pub later : u.freed ≤ v.freed
  pub within : v.freed ≤ length u.sent
  -- no room is lost, and of the size less one at most what was ever sent is missing
  pub keeps : u.room ≤ v.room
  pub least : u.size ≤ v.room + length u.sent + 1
  pub told : u.tells ≡ true → v.room + length u.sent + 1 ≡ v.freed + u.size

-- bytes are put
abbrev pub put_up : Up → List ℕ → Up
put_up u bytes = record u { staged = u.staged ++ bytes; room = u.room - length bytes }

-- what is staged is published
abbrev pub published : Up → Up
published u = record u { sent = u.sent ++ u.staged; staged = [] }

-- a look of the lower end that takes some bytes, from d to e
pub record Took (d e : Down) (taken : List ℕ) : Type 0 where
  pub same : e ≡ record d { got = d.got ++ taken; found = e.found; looks = d.looks + 1 }
  pub later : d.found ≤ e.found
  pub reached : length d.got ≤ e.found

-- v is the same upper end as u, nothing is staged, and what it knows of the reader didn't fall
pub record UpKept (u v : Up) : Type 0 where
  pub split : v.split ≡ u.split
  pub size : v.size ≡ u.size
  pub tells : v.tells ≡ u.tells
  pub staged : v.staged ≡ []
  pub later : u.freed ≤ v.freed
