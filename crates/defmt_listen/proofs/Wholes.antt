-- A whole recording, heard part by part.
use Rattle.std.proofs.Common.{◌≡◌, ◌≤◌, ◌+◌, ℕ, List, [], ◌++◌, length, take, refl, sym, ◌∙◌, ap, append_assoc, arith, length-append, length-take, subst}
use Rattle.std.specs.Prelude.{Option, Some, None, option_to_list}
use Rattle.std.specs.Io.KnownBytes.{Appends, Consumes, IsAtEnd, prepend_known}
use Rattle.std.proofs.lemmas.List.{append-nil, take_at}
use Rattle.dl_io.specs.Outside.{Rose, Took}
use Rattle.dl_io.proofs.Streams.{appends_then, appends_none, consumes_then, consumes_none}
use Rattle.defmt_framing.specs.Told.{Tells, begun, events}
use Rattle.defmt_framing.specs.Framing.{Framing, Stands}
use Rattle.defmt_listen.specs.Streams.{Input, Output}
use Rattle.defmt_listen.specs.Heard.{Reports, lines, lines_from, state_behind, faults, faults_among, HeardAll, HeardTo, HeardBegun, HeardTooMuch, HeardFront, HeardPart, HeardSome, Breaks, BreaksPart, Reporting}
use Rattle.defmt_listen.specs.declared.fault.ListenFault.{ListenFault}
use Rattle.defmt_listen.specs.declared.fault.ListenFault.TheVariants.{Source, Sink, Long, Memory}
use Rattle.defmt_listen.proofs.Fronts.{Front, then_front, longer_front, lines-append, behind-append, faults-append, events_go, begun_nothing, rest_of, no_rest}

-- So many bytes were taken and heard, and what they tell was written and counted.
pub record Listening {S E : Type 0} (r : Reports S E) (state_now : S) (now : Framing) (left left_now held held_now : Option (List ℕ)) (taken count : ℕ) : Type 0 where
  pub bytes : List ℕ
  pub size : length bytes ≡ taken
  pub within : taken ≤ r.limit
  pub took : Consumes left left_now bytes
  pub stands : Stands now bytes
  pub written : Appends held held_now (lines r (begun r.tells bytes))
  pub moved : state_now ≡ state_behind r.reporting r.start (begun r.tells bytes)
  pub counted : count ≡ faults r (begun r.tells bytes)
  pub few : count ≤ taken

-- ---- bytes that were read ahead

-- none were
prepend_nil : (left : Option (List ℕ)) → prepend_known [] left ≡ left
prepend_nil None = refl
prepend_nil (Some xs) = refl

pub drained : (ahead : List ℕ) (left : Option (List ℕ)) → ahead ≡ [] → prepend_known ahead left ≡ left
drained ahead left none = ap (λ (l : List ℕ). prepend_known l left) none ∙ prepend_nil left

pub none_ahead : (a b : Option (List ℕ)) (bytes same : List ℕ) → same ≡ bytes → Consumes a b bytes → Consumes (prepend_known [] a) (prepend_known [] b) same
none_ahead None b bytes same is took = tt
none_ahead (Some xs) None bytes same is took = absurd took
none_ahead (Some xs) (Some ys) bytes same is took = took ∙ ap (λ (l : List ℕ). l ++ ys) (sym is)

-- they were taken too
pub consumes_ahead : (a b : Option (List ℕ)) (bytes ahead : List ℕ) → Consumes a (prepend_known ahead b) bytes → Consumes a b (bytes ++ ahead)
consumes_ahead None b bytes ahead took = tt
consumes_ahead (Some xs) None bytes ahead took = absurd took
consumes_ahead (Some xs) (Some ys) bytes ahead took = took ∙ sym (append_assoc bytes ahead ys)

-- a front of the bytes that were heard is one of these too
pub some_ahead : {S E : Type 0} {tells : Tells E} {reporting : Reporting S E} {state : S} {output : Output} {stream bytes : List ℕ} (ahead : List ℕ)
    → HeardSome tells reporting state output stream bytes → HeardSome tells reporting state output stream (bytes ++ ahead)
some_ahead {bytes = bytes} ahead some = record {
  front = some.front;
  rest = some.rest ++ ahead;
  told = some.told;
  is = ap (λ (l : List ℕ). l ++ ahead) some.is ∙ append_assoc some.front some.rest ahead;
  tells_all = some.tells_all;
  written = some.written;
}

module _ {S E : Type 0} (r : Reports S E) (left held : Option (List ℕ)) where
  -- the lines of some events, and then those of others from the state behind them
  join : (state_now : S) (xs ys all : List E) → state_now ≡ state_behind r.reporting r.start xs → all ≡ xs ++ ys → lines r xs ++ lines_from r.reporting state_now ys ≡ lines r all
  join state_now xs ys all is all_is =
      ap (λ (s : S). lines r xs ++ lines_from r.reporting s ys) is ∙ sym (lines-append r.reporting r.start xs ys) ∙ ap (lines r) (sym all_is)

  pub start : (now : Framing) → Stands now [] → Listening r r.start now left left held held 0 0
  start now st = record {
    bytes = [];
    size = refl;
    within = omega arith;
    took = consumes_none left;
    stands = st;
    written = subst (λ (l : List E). Appends held held (lines r l)) (sym (begun_nothing r.tells)) (appends_none held);
    moved = sym (ap (state_behind r.reporting r.start) (begun_nothing r.tells));
    counted = sym (ap (faults r) (begun_nothing r.tells));
    few = omega arith;
  }

  -- one part more
  pub more : (state_now state_after : S) (now after : Framing) (left_now left_after : Option (List ℕ)) (output : Output) (taken count count_after : ℕ) (part : List ℕ)
      → Listening r state_now now left left_now held output.held taken count → Consumes left_now left_after part → taken + length part ≤ r.limit
      → ((stream : List ℕ) → Stands now stream
      → HeardPart r.tells r.reporting after state_now state_after output stream part count count_after)
      → count_after ≤ count + length part
      → Listening r state_after after left left_after held output.held_after (taken + length part) count_after
  more state_now state_after now after left_now left_after output taken count count_after part so took fits heard few =
      let one = heard so.bytes so.stands in
      record {
        bytes = so.bytes ++ part;
        size = omega (arith, length-append so.bytes part, so.size);
        within = fits;
        took = consumes_then left left_now left_after so.bytes part so.took took;
        stands = one.as_told.stands;
        written = subst (Appends held output.held_after) (join state_now (begun r.tells so.bytes) one.told (begun r.tells (so.bytes ++ part)) so.moved one.as_told.tells_all)
            (appends_then held output.held output.held_after (lines r (begun r.tells so.bytes)) (lines_from r.reporting state_now one.told) so.written one.written);
        moved = one.moved ∙ ap (λ (s : S). state_behind r.reporting s one.told) so.moved ∙ sym (behind-append r.reporting r.start (begun r.tells so.bytes) one.told)
            ∙ ap (state_behind r.reporting r.start) (sym one.as_told.tells_all);
        counted = one.counted ∙ ap (λ (n : ℕ). n + faults r one.told) so.counted ∙ sym (faults-append r.reporting (begun r.tells so.bytes) one.told) ∙ ap (faults r) (sym one.as_told.tells_all);
        few = omega (arith, so.few, few);
      }

  -- the front of a buffer, as a crew heard it
  pub front_more : (state_now state_after : S) (now after : Framing) (left_now left_after : Option (List ℕ)) (output : Output) (taken count count_after size : ℕ) (buf heard_in : List ℕ) (tells : Tells E)
      → tells ≡ r.tells → heard_in ≡ buf → size ≤ length buf → taken + size ≤ r.limit
      → Listening r state_now now left left_now held output.held taken count → Consumes left_now left_after (take size buf)
      → ((stream : List ℕ) → Stands now stream
      → HeardPart tells r.reporting after state_now state_after output stream (take size heard_in) count count_after)
      → count_after ≤ count + length (take size heard_in)
      → Listening r state_after after left left_after held output.held_after (taken + size) count_after
  front_more state_now state_after now after left_now left_after output taken count count_after size buf heard_in tells tells_is in_is fits within so took heard few =
      let size_is : length (take size buf) ≡ size = omega (arith, length-take size buf, fits) in
      let heard_here : (stream : List ℕ) → Stands now stream → HeardPart r.tells r.reporting after state_now state_after output stream (take size buf) count count_after =
      λ stream st. subst (λ (t : Tells E). HeardPart t r.reporting after state_now state_after output stream (take size buf) count count_after) tells_is
      (subst (λ (l : List ℕ). HeardPart tells r.reporting after state_now state_after output stream (take size l) count count_after) in_is (heard stream st)) in
      let few_here : count_after ≤ count + length (take size buf) = subst (λ (l : List ℕ). count_after ≤ count + length (take size l)) in_is few in
      subst (λ (n : ℕ). Listening r state_after after left left_after held output.held_after (taken + n) count_after) size_is
      (more state_now state_after now after left_now left_after output taken count count_after (take size buf) so took (omega (arith, size_is, within)) heard_here few_here)

module _ {S E : Type 0} (r : Reports S E) (input : Input) (output : Output) (state_now : S) (now : Framing) (left_now : Option (List ℕ)) (taken count : ℕ) where
  -- one byte more than the limit
  pub long : Listening r state_now now input.left left_now output.held output.held_after taken count → taken ≡ r.limit
      → Took left_now input.left_after (λ (l : List ℕ). length l ≡ 1) → HeardTooMuch r input output
  long so full one = record {
    bytes = so.bytes ++ one.0;
    taken = consumes_then input.left left_now input.left_after so.bytes one.0 so.took one.2;
    size = omega (arith, length-append so.bytes one.0, so.size, one.1, full);
    written = subst (λ (l : List ℕ). Appends output.held output.held_after (lines r (begun r.tells l))) (sym (take_at so.bytes one.0 r.limit (so.size ∙ full))) so.written;
  }

  module _ (held_now : Option (List ℕ)) (so : Listening r state_now now input.left left_now output.held held_now taken count) where
    -- a front of a part is heard, and a front of its lines is written
    pub part : (before : ℕ) (bytes : List ℕ) → Consumes left_now input.left_after bytes → taken + length bytes ≤ r.limit
        → ((stream : List ℕ) → Stands now stream → HeardSome r.tells r.reporting state_now (record output { held = held_now; faults = before }) stream bytes)
        → HeardFront r input output
    part before bytes took fits heard =
        let some = heard so.bytes so.stands in
        let rest = rest_of input.left_after in
        let whole = (so.bytes ++ bytes) ++ rest.0 in
        let on = events_go r.tells (so.bytes ++ some.front) (some.rest ++ rest.0) in
        let whole_is : whole ≡ (so.bytes ++ some.front) ++ (some.rest ++ rest.0) =
        append_assoc so.bytes bytes rest.0 ∙ ap (λ (l : List ℕ). so.bytes ++ (l ++ rest.0)) some.is ∙ ap (λ (l : List ℕ). so.bytes ++ l) (append_assoc some.front some.rest rest.0)
        ∙ sym (append_assoc so.bytes some.front (some.rest ++ rest.0)) in
        let told : events r.tells whole ≡ (begun r.tells so.bytes ++ some.told) ++ on.more = ap (events r.tells) whole_is ∙ on.is ∙ ap (λ (l : List E). l ++ on.more) some.tells_all in
        let heard_lines = lines r (begun r.tells so.bytes) ++ lines_from r.reporting state_now some.told in
        let more_lines = lines_from r.reporting (state_behind r.reporting r.start (begun r.tells so.bytes ++ some.told)) on.more in
        let text : lines r (events r.tells whole) ≡ heard_lines ++ more_lines =
        ap (lines r) told ∙ lines-append r.reporting r.start (begun r.tells so.bytes ++ some.told) on.more
        ∙ ap (λ (l : List ℕ). l ++ more_lines) (sym (join r input.left output.held state_now (begun r.tells so.bytes) some.told (begun r.tells so.bytes ++ some.told) so.moved refl)) in
        record {
          bytes = so.bytes ++ bytes;
          rest = rest.0;
          taken = consumes_then input.left left_now input.left_after so.bytes bytes so.took took;
          within = omega (arith, length-append so.bytes bytes, so.size, fits);
          is_rest = rest.1;
          written = longer_front output.held output.held_after heard_lines more_lines (lines r (events r.tells whole)) text
              (then_front output.held held_now output.held_after (lines r (begun r.tells so.bytes)) (lines_from r.reporting state_now some.told) so.written some.written);
        }

module _ {S E : Type 0} (r : Reports S E) (input : Input) (output : Output) (state_now : S) (now : Framing) (taken count : ℕ) (end : IsAtEnd input.left_after)
    (last : Option E) (finishes : (stream : List ℕ) → Stands now stream → events r.tells stream ≡ begun r.tells stream ++ option_to_list last) where
  module _ (held_now : Option (List ℕ)) (so : Listening r state_now now input.left input.left_after output.held held_now taken count) where
    all_lines : lines r (events r.tells so.bytes) ≡ lines r (begun r.tells so.bytes) ++ lines_from r.reporting state_now (option_to_list last)
    all_lines = sym (join r input.left output.held state_now (begun r.tells so.bytes) (option_to_list last) (events r.tells so.bytes) so.moved (finishes so.bytes so.stands))

    -- all is heard and written
    all_heard : (text : List ℕ) (count_after : ℕ) → text ≡ lines_from r.reporting state_now (option_to_list last) → count_after ≡ count + faults_among r.reporting (option_to_list last) → Appends held_now output.held_after text
        → HeardAll r input output count_after
    all_heard text count_after text_is count_is all_ = record {
      recording = so.bytes;
      taken = so.took;
      at_end = end;
      within = omega (arith, so.size, so.within);
      written = subst (Appends output.held output.held_after) (sym all_lines)
          (appends_then output.held held_now output.held_after (lines r (begun r.tells so.bytes)) (lines_from r.reporting state_now (option_to_list last)) so.written (subst (Appends held_now output.held_after) text_is all_));
      counted = count_is ∙ ap (λ (n : ℕ). n + faults_among r.reporting (option_to_list last)) so.counted ∙ sym (faults-append r.reporting (begun r.tells so.bytes) (option_to_list last)) ∙ ap (faults r) (sym (finishes so.bytes so.stands));
    }

    -- and the reporter went on behind it
    pub whole : (text : List ℕ) (count_after : ℕ) (after : S) → text ≡ lines_from r.reporting state_now (option_to_list last) → count_after ≡ count + faults_among r.reporting (option_to_list last) → Appends held_now output.held_after text
        → after ≡ state_behind r.reporting state_now (option_to_list last) → HeardTo r input output count_after after
    unfolding all_heard
    whole text count_after after text_is count_is all_ after_is = record {
      all = all_heard text count_after text_is count_is all_;
      moved = after_is ∙ ap (λ (s : S). state_behind r.reporting s (option_to_list last)) so.moved
          ∙ sym (behind-append r.reporting r.start (begun r.tells so.bytes) (option_to_list last)) ∙ ap (state_behind r.reporting r.start) (sym (finishes so.bytes so.stands));
    }

    -- a front of the last line is written
    pub last_front : (text : List ℕ) → text ≡ lines_from r.reporting state_now (option_to_list last) → Front held_now output.held_after text
        → HeardFront r input output
    last_front text text_is front_ = record {
      bytes = so.bytes;
      rest = [];
      taken = so.took;
      within = omega (arith, so.size, so.within);
      is_rest = no_rest input.left_after end;
      written = subst (λ (l : List ℕ). Front output.held output.held_after (lines r (events r.tells l))) (sym (append-nil so.bytes))
          (subst (Front output.held output.held_after) (sym all_lines) (then_front output.held held_now output.held_after (lines r (begun r.tells so.bytes)) (lines_from r.reporting state_now (option_to_list last)) so.written (subst (Front held_now output.held_after) text_is front_)));
    }

  -- nothing of the last line is written
  pub no_last : Listening r state_now now input.left input.left_after output.held output.held_after taken count → HeardFront r input output
  no_last so = last_front output.held_after so (lines_from r.reporting state_now (option_to_list last)) refl (0, omega arith, appends_none output.held_after)

-- nothing was read
pub untouched : {S E : Type 0} (r : Reports S E) (input : Input) (output : Output) → HeardFront r (record input { left_after = input.left }) (record output { held_after = output.held })
untouched r input output =
    let rest = rest_of input.left in
    record {
      bytes = [];
      rest = rest.0;
      taken = consumes_none input.left;
      within = omega arith;
      is_rest = rest.1;
      written = (0, omega arith, appends_none output.held);
    }

-- the faults that are handed on

rose_later : (before middle after : ℕ) → before ≤ middle → Rose middle after → Rose before after
rose_later before middle after later rose = omega arith

pub breaks_memory : {S E : Type 0} (r : Reports S E) (input : Input) (output : Output) (fault : ListenFault) → fault ≡ Memory → HeardFront r input output → Breaks r input output fault
breaks_memory r input output fault is front = subst (Breaks r input output) (sym is) front

pub breaks_sink : {S E : Type 0} (r : Reports S E) (input : Input) (output : Output) (middle : ℕ) (fault : ListenFault) → fault ≡ Sink → HeardFront r input output
    → output.faults ≤ middle → Rose middle output.faults_after → Breaks r input output fault
breaks_sink r input output middle fault is front later rose = subst (Breaks r input output) (sym is) (front, rose_later output.faults middle output.faults_after later rose)

pub breaks_part : {S E : Type 0} (r : Reports S E) (input : Input) (output : Output) (middle : ℕ) (fault : ListenFault) → BreaksPart (Rose middle output.faults_after) fault → HeardFront r input output
    → output.faults ≤ middle → Breaks r input output fault
breaks_part r input output middle Sink why front later = (front, rose_later output.faults middle output.faults_after later why)
breaks_part r input output middle Memory why front later = front
breaks_part r input output middle Source why front later = absurd why
breaks_part r input output middle Long why front later = absurd why

pub breaks_long : {S E : Type 0} (r : Reports S E) (input : Input) (output : Output) (state_now : S) (now : Framing) (left_now : Option (List ℕ)) (taken count : ℕ) (fault : ListenFault)
    → fault ≡ Long → Listening r state_now now input.left left_now output.held output.held_after taken count → taken ≡ r.limit
    → Took left_now input.left_after (λ (l : List ℕ). length l ≡ 1) → Breaks r input output fault
breaks_long r input output state_now now left_now taken count fault is so full one = subst (Breaks r input output) (sym is) (long r input output state_now now left_now taken count so full one)

-- the source failed behind a part that was heard
pub breaks_behind : {S E : Type 0} (r : Reports S E) (input : Input) (output : Output) (state_now : S) (now : Framing) (taken count : ℕ)
    → Listening r state_now now input.left input.left_after output.held output.held_after taken count → Rose input.faults input.faults_after → Breaks r input output Source
breaks_behind r input output state_now now taken count so rose = (record { bytes = so.bytes; taken = so.took; within = omega (arith, so.size, so.within); written = so.written }, rose)
