-- One part of a recording, heard byte by byte.
use Rattle.std.proofs.Common.{◌≡◌, ◌≤◌, ◌<◌, ◌+◌, ℕ, List, [], ◌∷◌, ◌++◌, length, take, drop, refl, sym, ◌∙◌, ap, append_assoc, arith, length-drop, subst, Bool, true, false, nat_eq, cond}
use Rattle.std.specs.Prelude.{Option, Some, None, option_to_list}
use Rattle.std.specs.Io.KnownBytes.{Appends}
use Rattle.dl_io.proofs.Streams.{appends_then, appends_none}
use Rattle.defmt_framing.specs.Told.{Tells, begun}
use Rattle.defmt_framing.specs.Framing.{Framing, Stands, Hears}
use Rattle.defmt_framing.proofs.Standing.{HearsSo, hears_start, hears_more, hears_all}
use Rattle.defmt_listen.specs.Streams.{Output}
use Rattle.defmt_listen.specs.Heard.{Reporting, lines_from, state_behind, faults_among, HeardPart, HeardSome, HearsNext}
use Rattle.defmt_listen.proofs.Fronts.{Front, then_front, lines-append, behind-append, faults-append}

-- What is heard so far of a part, what of its lines is written and what is gathered, and how many faults are counted.
pub record Hearing {S E : Type 0} (t : Tells E) (r : Reporting S E) (state state_now : S) (first now : Framing) (bytes rest : List ℕ) (held held_now : Option (List ℕ)) (gathered : List ℕ) (count count_now : ℕ) : Type 0 where
  pub told : List E
  pub hears : HearsSo t first now bytes rest [] told
  pub written : List ℕ
  pub appended : Appends held held_now written
  pub lines_are : written ++ gathered ≡ lines_from r state told
  pub moved : state_now ≡ state_behind r state told
  pub counted : count_now ≡ count + faults_among r told
  pub fits : count_now + length rest ≤ count + length bytes

-- an event is one fault or none
one_if : (b : Bool) (E : Type 0) (event : E) → length (cond b (event ∷ []) []) ≤ 1
one_if true E event = omega arith
one_if false E event = omega arith

pub one_event : {S E : Type 0} (r : Reporting S E) (event : Option E) → faults_among r (option_to_list event) ≤ 1
one_event r None = omega arith
one_event {S} {E} r (Some event) = one_if (r.is_fault event) E event

pub some_left : (rest : List ℕ) (empty : Bool) → empty ≡ nat_eq (length rest) 0 → empty ≡ false → 0 < length rest
some_left [] empty is not_empty = absurd (cc)
some_left (b ∷ rest) empty is not_empty = omega arith

module _ {S E : Type 0} (t : Tells E) (r : Reporting S E) (state : S) (first : Framing) (bytes : List ℕ) (held : Option (List ℕ)) (count : ℕ) where
  pub start : (gathered : List ℕ) → gathered ≡ [] → Hearing t r state state first first bytes bytes held held gathered count count
  start gathered none = record {
    told = [];
    hears = hears_start t first bytes [];
    written = [];
    appended = appends_none held;
    lines_are = none;
    moved = refl;
    counted = omega arith;
    fits = omega arith;
  }

  -- one call more, and what is printed of its event is gathered
  pub more : (state_now state_after : S) (now after : Framing) (rest behind : List ℕ) (held_now : Option (List ℕ)) (gathered gathered_after : List ℕ) (count_now count_after n : ℕ) (event : Option E)
      → Hearing t r state state_now first now bytes rest held held_now gathered count count_now
      → ((stream : List ℕ) → Stands now stream → Hears t after stream (take n rest) event) → behind ≡ drop n rest
      → gathered_after ≡ gathered ++ lines_from r state_now (option_to_list event) → state_after ≡ state_behind r state_now (option_to_list event)
      → count_after ≡ count_now + faults_among r (option_to_list event) → faults_among r (option_to_list event) ≤ 1 → 0 < n → 0 < length rest
      → Hearing t r state state_after first after bytes behind held held_now gathered_after count count_after
  more state_now state_after now after rest behind held_now gathered gathered_after count_now count_after n event so one behind_is lines_is state_is count_is few some left = record {
    told = so.told ++ option_to_list event;
    hears = hears_more t first now after bytes rest behind n event [] so.told (so.told ++ option_to_list event) so.hears one behind_is refl;
    written = so.written;
    appended = so.appended;
    lines_are = ap (λ (l : List ℕ). so.written ++ l) lines_is ∙ sym (append_assoc so.written gathered (lines_from r state_now (option_to_list event)))
        ∙ ap (λ (l : List ℕ). l ++ lines_from r state_now (option_to_list event)) so.lines_are
        ∙ ap (λ (s : S). lines_from r state so.told ++ lines_from r s (option_to_list event)) so.moved
        ∙ sym (lines-append r state so.told (option_to_list event));
    moved = state_is ∙ ap (λ (s : S). state_behind r s (option_to_list event)) so.moved ∙ sym (behind-append r state so.told (option_to_list event));
    counted = omega (arith, count_is, so.counted, faults-append r so.told (option_to_list event));
    fits = omega (arith, so.fits, count_is, few, some, left, ap length behind_is, length-drop n rest);
  }

  -- the same, as it is said of the next bytes
  pub more_next : {own : Tells E} {state_now state_after : S} {now after : Framing} {rest behind : List ℕ} {held_now : Option (List ℕ)} {gathered gathered_after : List ℕ} {count_now count_after n : ℕ}
      → Hearing t r state state_now first now bytes rest held held_now gathered count count_now
      → HearsNext own r now after state_now state_after gathered gathered_after count_now count_after rest n
      → own ≡ t → behind ≡ drop n rest → 0 < length rest
      → Hearing t r state state_after first after bytes behind held held_now gathered_after count count_after
  more_next {own} {state_now} {state_after} {now} {after} {rest} {behind} {held_now} {gathered} {gathered_after} {count_now} {count_after} {n} so next same behind_is left =
      more state_now state_after now after rest behind held_now gathered gathered_after count_now count_after n next.event so
      (λ stream st. subst (λ (tells : Tells E). Hears tells after stream (take n rest) next.event) same (next.hears stream st))
      behind_is next.gathered next.moved next.counted (one_event r next.event) next.some left

  -- some of what is gathered is written
  pub writes : (state_now : S) (now : Framing) (rest : List ℕ) (held_now held_after : Option (List ℕ)) (gathered gathered_after text : List ℕ) (count_now : ℕ)
      → Hearing t r state state_now first now bytes rest held held_now gathered count count_now → Appends held_now held_after text → text ++ gathered_after ≡ gathered
      → Hearing t r state state_now first now bytes rest held held_after gathered_after count count_now
  writes state_now now rest held_now held_after gathered gathered_after text count_now so more_ is = record {
    told = so.told;
    hears = so.hears;
    written = so.written ++ text;
    appended = appends_then held held_now held_after so.written text so.appended more_;
    moved = so.moved;
    lines_are = append_assoc so.written text gathered_after ∙ ap (λ (l : List ℕ). so.written ++ l) is ∙ so.lines_are;
    counted = so.counted;
    fits = so.fits;
  }

module _ {S E : Type 0} (t : Tells E) (r : Reporting S E) (state : S) (first : Framing) (bytes : List ℕ) (output : Output) (count : ℕ) where
  -- a front of what is gathered is written
  pub stops : (state_now : S) (now : Framing) (rest : List ℕ) (held_now : Option (List ℕ)) (gathered : List ℕ) (count_now : ℕ)
      → Hearing t r state state_now first now bytes rest output.held held_now gathered count count_now → Front held_now output.held_after gathered
      → (stream : List ℕ) → Stands first stream → HeardSome t r state output stream bytes
  stops state_now now rest held_now gathered count_now so front_ stream st =
      let heard = so.hears.heard stream st in
      record {
        front = so.hears.taken;
        rest = rest;
        told = so.told;
        is = so.hears.bytes_are;
        tells_all = heard.as_told.tells_all ∙ ap (λ (l : List E). begun t stream ++ l) (sym heard.appended);
        written = subst (Front output.held output.held_after) so.lines_are (then_front output.held held_now output.held_after so.written gathered so.appended front_);
      }

  -- nothing more is written
  pub stands_still : (state_now : S) (now : Framing) (rest gathered : List ℕ) (count_now : ℕ)
      → Hearing t r state state_now first now bytes rest output.held output.held_after gathered count count_now
      → (stream : List ℕ) → Stands first stream → HeardSome t r state output stream bytes
  stands_still state_now now rest gathered count_now so stream st =
      stops state_now now rest output.held_after gathered count_now so (0, omega arith, appends_none output.held_after) stream st

  -- all is heard, and all is written
  pub ends : (state_now : S) (now : Framing) (rest : List ℕ) (held_now : Option (List ℕ)) (gathered : List ℕ) (count_now : ℕ)
      → Hearing t r state state_now first now bytes rest output.held held_now gathered count count_now → length rest ≡ 0 → Appends held_now output.held_after gathered
      → (stream : List ℕ) → Stands first stream → HeardPart t r now state state_now output stream bytes count count_now
  ends state_now now rest held_now gathered count_now so none all_ stream st =
      let heard = hears_all t first now bytes rest [] so.told so.hears none stream st in
      record {
        told = so.told;
        as_told = record {
          stands = heard.as_told.stands;
          tells_all = heard.as_told.tells_all ∙ ap (λ (l : List E). begun t stream ++ l) (sym heard.appended);
        };
        moved = so.moved;
        written = subst (Appends output.held output.held_after) so.lines_are (appends_then output.held held_now output.held_after so.written gathered so.appended all_);
        counted = so.counted;
      }
