-- Bytes of a recording that are heard one behind the other.
use Rattle.std.proofs.Common.{◌≡◌, ◌+◌, ℕ, List, [], ◌++◌, length, sym, ◌∙◌, ap, append_assoc, arith, subst}
use Rattle.std.specs.Prelude.{Option}
use Rattle.std.specs.Io.KnownBytes.{Appends}
use Rattle.std.proofs.lemmas.List.{append-nil}
use Rattle.dl_io.proofs.Streams.{appends_then}
use Rattle.defmt_framing.specs.Told.{Tells, begun}
use Rattle.defmt_framing.specs.Framing.{Framing}
use Rattle.defmt_framing.proofs.Standing.{heard_both}
use Rattle.defmt_listen.specs.Streams.{Output}
use Rattle.defmt_listen.specs.Heard.{Reporting, HeardPart, HeardSome, lines_from, state_behind}
use Rattle.defmt_listen.proofs.Fronts.{Front, then_front, lines-append, behind-append, faults-append}

-- a sink before a first call and after a second
abbrev pub both_outputs : Output → Output → Output
both_outputs first second = record { held = first.held; held_after = second.held_after; faults = first.faults; faults_after = second.faults_after }

module _ {S E : Type 0} (t : Tells E) (r : Reporting S E) (stream : List ℕ) where
  module _ (middle : Framing) (state state_now : S) (one two : Output) (front rest : List ℕ) (count count_now : ℕ)
      (first : HeardPart t r middle state state_now one stream front count count_now) (on : one.held_after ≡ two.held) where
    joined_lines : (more : List E) → lines_from r state first.told ++ lines_from r state_now more ≡ lines_from r state (first.told ++ more)
    joined_lines more = ap (λ (s : S). lines_from r state first.told ++ lines_from r s more) first.moved ∙ sym (lines-append r state first.told more)

    -- two stretches of bytes
    pub part_then : (after : Framing) (state_after : S) (count_after : ℕ) → HeardPart t r after state_now state_after two (stream ++ front) rest count_now count_after
        → HeardPart t r after state state_after (both_outputs one two) stream (front ++ rest) count count_after
    part_then after state_after count_after second = record {
      told = first.told ++ second.told;
      as_told = heard_both t middle after stream front rest first.told second.told first.as_told second.as_told;
      moved = second.moved ∙ ap (λ (s : S). state_behind r s second.told) first.moved ∙ sym (behind-append r state first.told second.told);
      written = subst (Appends one.held two.held_after) (joined_lines second.told)
          (appends_then one.held one.held_after two.held_after (lines_from r state first.told) (lines_from r state_now second.told) first.written
          (subst (λ (held : Option (List ℕ)). Appends held two.held_after (lines_from r state_now second.told)) (sym on) second.written));
      counted = omega (arith, second.counted, first.counted, faults-append r first.told second.told);
    }

    -- the second of which is heard in part
    pub part_some : HeardSome t r state_now two (stream ++ front) rest → HeardSome t r state (both_outputs one two) stream (front ++ rest)
    part_some some = record {
      front = front ++ some.front;
      rest = some.rest;
      told = first.told ++ some.told;
      is = ap (λ (l : List ℕ). front ++ l) some.is ∙ sym (append_assoc front some.front some.rest);
      tells_all = ap (begun t) (sym (append_assoc stream front some.front)) ∙ some.tells_all ∙ ap (λ (l : List E). l ++ some.told) first.as_told.tells_all
          ∙ append_assoc (begun t stream) first.told some.told;
      written = subst (Front one.held two.held_after) (joined_lines some.told)
          (then_front one.held one.held_after two.held_after (lines_from r state first.told) (lines_from r state_now some.told) first.written
          (subst (λ (held : Option (List ℕ)). Front held two.held_after (lines_from r state_now some.told)) (sym on) some.written));
    }

  -- more bytes behind those of which some are heard
  pub some_more : (state : S) (output : Output) (bytes more : List ℕ) → HeardSome t r state output stream bytes → HeardSome t r state output stream (bytes ++ more)
  some_more state output bytes more some = record {
    front = some.front;
    rest = some.rest ++ more;
    told = some.told;
    is = ap (λ (l : List ℕ). l ++ more) some.is ∙ append_assoc some.front some.rest more;
    tells_all = some.tells_all;
    written = some.written;
  }

  -- all bytes are heard, and a front of their lines is written
  pub front_written : (after : Framing) (state : S) (output : Output) (bytes : List ℕ) (told : List E) → begun t (stream ++ bytes) ≡ begun t stream ++ told
      → Front output.held output.held_after (lines_from r state told) → HeardSome t r state output stream bytes
  front_written after state output bytes told tells_all written = record {
    front = bytes;
    rest = [];
    told = told;
    is = sym (append-nil bytes);
    tells_all = tells_all;
    written = written;
  }
