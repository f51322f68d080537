-- What contracts see of the ends of a ring's words, and what a step tells that isn't one equation.
use Rattle.std.specs.Prelude.{◌≡◌, ℕ, ◌+◌, ◌/◌, ◌%◌, ◌≤◌, List, [], ◌++◌, length}
use mathlib.Core.Option.{some}
use lib.ListN.{get_elem?}
use Rattle.rtt_words.specs.declared.view.UpView.{UpView}
use Rattle.rtt_words.specs.declared.view.DownView.{DownView}
use Rattle.rtt_words.specs.declared.up.UpWords.{UpWords}
use Rattle.rtt_words.specs.declared.down.DownWords.{DownWords}
use Rattle.rtt_words.specs.declared.joined.JoinedWords.{JoinedWords}
use Rattle.rtt_words.specs.History.{IsLoaded, IsStored, IsTold}
use Rattle.rtt_words.specs.Seats.{name_of}
use Rattle.rtt_words.specs.WordRule.{upper_of, lower_of, IsWhole, lane}

abbrev pub upper : UpWords → UpView
upper w = upper_of w.seat.me.0

abbrev pub lower : DownWords → DownView
lower w = lower_of w.seat.me.0

abbrev pub upper_name : UpWords → List ℕ
upper_name w = name_of (upper_of w.seat.me.0).size w.seat.table_id

abbrev pub lower_name : DownWords → List ℕ
lower_name w = name_of (lower_of w.seat.me.0).size w.seat.table_id

abbrev pub joined_upper : JoinedWords → UpView
joined_upper w = upper_of w.seat.me.0

abbrev pub joined_lower : JoinedWords → DownView
joined_lower w = lower_of w.seat.me.0

-- a load of RdOff, from u to v, that reads n: it finds how many bytes the lower end stored last that it had released
pub record FoundReleased (u : UpView) (n : ℕ) (v : UpView) : Type 0 where
  pub same : v ≡ record u { freed = v.freed; looks = u.looks + 1; rd_off = v.rd_off }
  pub load : IsLoaded u.rd_off v.freed v.rd_off
  pub read : n ≡ v.freed % u.size
  pub later : u.freed ≤ v.freed
  pub within : v.freed ≤ length u.sent

-- a store of WrOff: all bytes that are staged are published
pub record IsPublished (u v : UpView) : Type 0 where
  pub same : v ≡ record u { sent = u.sent ++ u.staged; staged = []; wr_off = v.wr_off }
  pub store : IsStored u.wr_off (length u.sent + length u.staged) v.wr_off

-- a load of WrOff, from d to e, that reads n: it finds how many bytes the upper end stored last that it had published
pub record FoundPublished (d : DownView) (n : ℕ) (e : DownView) : Type 0 where
  pub same : e ≡ record d { found = e.found; looks = d.looks + 1; wr_off = e.wr_off }
  pub load : IsLoaded d.wr_off e.found e.wr_off
  pub read : n ≡ e.found % d.size
  pub later : d.found ≤ e.found
  pub fits : e.found + 1 ≤ length d.got + d.size

-- a store of RdOff: all bytes that were taken are released
pub record IsReleased (d e : DownView) : Type 0 where
  pub same : e ≡ record d { released = length d.got; rd_off = e.rd_off }
  pub store : IsStored d.rd_off (length d.got) e.rd_off

-- a data word n, as the joined ends find it
pub record FoundRest (u : UpView) (d : DownView) (word n : ℕ) : Type 0 where
  pub whole : IsWhole u d
  pub bytes : (i b : ℕ) → length d.got ≤ i → get_elem? u.sent i ≡ some b → i % u.size / 8 ≡ word → lane n (i % u.size % 8) ≡ b
  -- each offset has one history
  pub rd_told : IsTold d.rd_off u.rd_off d.released
  pub wr_told : IsTold u.wr_off d.wr_off (length u.sent)
