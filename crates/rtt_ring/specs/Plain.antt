-- What a plain ring keeps. Its parts are plain data here: the image, the size, RdOff, how many bytes wait, how many
-- are staged, the room, two counts, and the traffic of its journal.
use Rattle.std.specs.Prelude.{◌≡◌, ℕ, ◌+◌, ◌%◌, ◌<◌, ◌≤◌, true, List, ◌++◌, length, take}
use Rattle.rtt_ring.specs.declared.journal.Traffic.{Traffic}
use Rattle.rtt_ring.specs.Account.{capped}
use Rattle.rtt_ring.specs.Image.{block_of, part}
use Rattle.rtt_words.specs.History.{last_loaded, loads_in}
use Rattle.rtt_ring.specs.Traffic.{IsSeen}
use Rattle.rtt_ring.specs.Views.{Up, Down}

abbrev pub up_view : List ℕ → ℕ → ℕ → Traffic → Up
up_view name size room t = record {
  split = name;
  size = size;
  sent = t.sent;
  staged = t.staged;
  room = room;
  looks = t.up_looks;
  freed = t.freed;
  tells = true;
  seen = t.seen;
}

abbrev pub down_view : List ℕ → ℕ → Traffic → Down
down_view name size t = record { split = name; size = size; got = t.got; found = t.found; looks = t.down_looks }

pub record IsPlain (image : List ℕ) (size rd waiting staged room looks got_len : ℕ) (t : Traffic) : Type 0 where
  pub big : (15 < size) × (size ≤ 65536)
  pub wide : length image ≡ 48 + size
  -- the block tells the size and the two offsets
  pub front : take 48 image ≡ block_of size ((rd + waiting) % size) rd
  pub place : rd ≡ length t.got % size
  -- the bytes that wait and those that are staged stand in the buffer
  pub sent_is : t.sent ≡ t.got ++ part image size (length t.got) waiting
  pub staged_is : t.staged ≡ part image size (length t.got + waiting) staged
  -- room was left by the last look, which found `freed` bytes released
  pub bound : length t.got + waiting + staged + room + 1 ≤ t.freed + size
  pub leaves : 0 < t.up_looks → length t.got + waiting + staged + room + 1 ≡ t.freed + size
  pub freed : t.freed ≤ length t.got
  pub found : (length t.got ≤ t.found) × (t.found ≤ length t.got + waiting)
  pub looked : looks ≡ capped t.up_looks
  pub counted : got_len ≡ capped (length t.got)
  -- the history of the releases and looks says how many bytes are released
  pub loads : loads_in t.seen ≡ t.up_looks
  pub last : last_loaded 0 t.seen ≡ t.freed
  pub told : IsSeen t.seen t.history (length t.got)
