-- What contracts see of the two ends of a word ring.
use Rattle.std.specs.Prelude.{true, ℕ, List}
use Rattle.rtt_ring.specs.Views.{Up, Down}
use Rattle.rtt_words.specs.Told.{upper, upper_name, lower, lower_name}
use Rattle.rtt_words.specs.declared.view.Access.{Access}
use Rattle.rtt_words.specs.declared.view.UpView.{UpView}
use Rattle.rtt_words.specs.declared.view.DownView.{DownView}
use Rattle.rtt_ring.specs.declared.word.up.WordUp.{WordUp}
use Rattle.rtt_ring.specs.declared.word.down.WordDown.{WordDown}

-- by the ring's name, what its words know, its size and its room
abbrev pub up_view : List ℕ → UpView → ℕ → ℕ → Up
up_view name u size room = record {
  split = name;
  size = size;
  sent = u.sent;
  staged = u.staged;
  room = room;
  looks = u.looks;
  freed = u.freed;
  tells = true;
  seen = u.rd_off;
}

abbrev pub down_view : List ℕ → DownView → ℕ → Down
down_view name d size = record { split = name; size = size; got = d.got; found = d.found; looks = d.looks }

abbrev pub up_of : WordUp → Up
up_of w = up_view (upper_name w.words) (upper w.words) w.size w.room

abbrev pub down_of : WordDown → Down
down_of w = down_view (lower_name w.words) (lower w.words) w.size

-- how many bytes the lower end has released: RdOff is this number modulo the size
abbrev pub released_of : WordDown → ℕ
released_of w = (lower w.words).released

-- each publishing of this end and each look of the lower end, up to the last publishing
abbrev pub published_of : WordUp → List Access
published_of w = (upper w.words).wr_off

-- each release of this end and each look of the upper end, up to the last release
abbrev pub releases_of : WordDown → List Access
releases_of w = (lower w.words).rd_off

-- each publishing of the writer and each look of the lower end, in the order in which they were made, up to the last look
abbrev pub seen_of : WordDown → List Access
seen_of w = (lower w.words).wr_off
