-- What is printed between two lines, by their places, and by the marks of a tape.
use Rattle.std.proofs.Common.{◌≡◌, ◌+◌, ℕ, List, [], ◌∷◌, ◌++◌, length, refl, sym, ◌∙◌, ap, append_assoc, arith}
use Rattle.std.specs.Prelude.{Option, Some, None, flat_map}
use Rattle.defmt_decode.specs.Gap.{gap_of}
use Rattle.defmt_decode.specs.declared.event.Event.{Event}
use Rattle.defmt_decode.specs.declared.event.Event.TheVariants.{Line, Bad, CutFront, CutTail}
use Rattle.defmt_hooks.specs.declared.rules.Rules.{Rules}
use Rattle.defmt_intern.specs.Table.{Map}
use Rattle.defmt_logger.specs.Tape.{mark_line}
use Rattle.defmt_logger.specs.declared.mark.Mark.{Mark}
use Rattle.defmt_plan.specs.declared.message.Parts.{Parts}
use Rattle.defmt_print.proofs.ShownLines.{no_events, one_event, one_line}
use Rattle.defmt_print.specs.Heard.{AreNoLines, HaveNoPlaces, IsWhole, WasDropped, WereDropped, line_at, place_behind}
use Rattle.defmt_recording.specs.Output.{gap_before, gap_line, last_behind}
use Rattle.defmt_print.specs.Shown.{dropped_behind, kept_line, shows_index, shows_mark, tape_line, tape_lines}
use Rattle.defmt_recording.specs.Shown.{event_lines_by, event_lines_from, kept_event}
use Rattle.defmt_script.specs.Script.{Script}
use Rattle.rtt_modes.specs.declared.fate.Fate.{Fate}
use Rattle.rtt_modes.specs.declared.fate.Fate.TheVariants.{Whole, Dropped, Cut}

-- ---- two lines of a recording

module _ (only : Option Rules) (table : Map) where
  all-append : (last : Option ℕ) (xs ys : List Event) → place_behind last (xs ++ ys) ≡ place_behind (place_behind last xs) ys
  all-append last [] ys = refl
  all-append last (x ∷ xs) ys = all-append (last_behind last x) xs ys

  pub prints-append : (last : Option ℕ) (xs ys : List Event)
      → event_lines_from only table last (xs ++ ys) ≡ event_lines_from only table last xs ++ event_lines_from only table (place_behind last xs) ys
  prints-append last [] ys = ap (λ (l : List ℕ). l ++ event_lines_from only table last ys) (sym (no_events only table last))
  prints-append last (x ∷ xs) ys =
      let line : List ℕ = gap_line (gap_before last x) ++ kept_event only table x in
      let behind : Option ℕ = last_behind last x in
      one_event only table last x (xs ++ ys)
      ∙ ap (λ (l : List ℕ). line ++ l) (prints-append behind xs ys)
      ∙ sym (append_assoc line (event_lines_from only table behind xs) (event_lines_from only table (place_behind behind xs) ys))
      ∙ ap (λ (l : List ℕ). l ++ event_lines_from only table (place_behind behind xs) ys) (sym (one_event only table last x xs))

  -- events that are no lines leave the place of the last line
  behind_no_lines : (last : Option ℕ) (events : List Event) → AreNoLines events → place_behind last events ≡ last
  unfolding last_behind
  behind_no_lines last [] none = refl
  behind_no_lines last (Line index place parts text ∷ events) none = absurd none
  behind_no_lines last (Bad cause ∷ events) none = behind_no_lines last events none
  behind_no_lines last (CutFront bytes ∷ events) none = behind_no_lines last events none
  behind_no_lines last (CutTail bytes ∷ events) none = behind_no_lines last events none

  behind_line : (last : Option ℕ) (index place : ℕ) (parts : Parts) (text : List ℕ) (events : List Event) → AreNoLines events → place_behind last (line_at index place parts text ∷ events) ≡ Some place
  unfolding last_behind
  behind_line last index place parts text events none = behind_no_lines (Some place) events none

  pub lines_between : (front between rest : List Event) (first second a b : ℕ) (p q : Parts) (one two : List ℕ) → AreNoLines between
      → event_lines_by only table (front ++ line_at first a p one ∷ between ++ line_at second b q two ∷ rest)
      ≡ event_lines_by only table (front ++ line_at first a p one ∷ between)
      ++ (gap_line (gap_of a b) ++ kept_line (shows_index only table second) two) ++ event_lines_from only table (Some b) rest
  lines_between front between rest first second a b p q one two none =
      let behind : Option ℕ = place_behind None front in
      let seen : List Event = front ++ line_at first a p one ∷ between in
      let line : List ℕ = gap_line (gap_of a b) ++ kept_line (shows_index only table second) two in
      let last : place_behind None seen ≡ Some a =
      all-append None front (line_at first a p one ∷ between) ∙ behind_line behind first a p one between none in
      prints-append None seen (line_at second b q two ∷ rest)
      ∙ ap (λ (o : Option ℕ). event_lines_by only table seen ++ event_lines_from only table o (line_at second b q two ∷ rest)) last
      ∙ ap (λ (l : List ℕ). event_lines_by only table seen ++ l) (one_line only table (Some a) second (Some b) q two rest)
      ∙ sym (append_assoc (event_lines_by only table seen) line (event_lines_from only table (Some b) rest))

  -- ---- lines without places

  one_alone : (event : Event) (events : List Event) → gap_before None event ≡ 0 → last_behind None event ≡ None
      → event_lines_by only table events ≡ flat_map (kept_event only table) events → event_lines_by only table (event ∷ events) ≡ flat_map (kept_event only table) (event ∷ events)
  one_alone event events no_gap no_place is =
      one_event only table None event events
      ∙ ap (λ (n : ℕ). (gap_line n ++ kept_event only table event) ++ event_lines_from only table (last_behind None event) events) no_gap
      ∙ ap (λ (o : Option ℕ). kept_event only table event ++ event_lines_from only table o events) no_place
      ∙ ap (λ (l : List ℕ). kept_event only table event ++ l) is

  pub lines_alone : (events : List Event) → HaveNoPlaces events → event_lines_by only table events ≡ flat_map (kept_event only table) events
  unfolding gap_before last_behind
  lines_alone [] none = no_events only table None
  lines_alone (Line index None parts text ∷ events) none = one_alone (Line index None parts text) events refl refl (lines_alone events none)
  lines_alone (Line index (Some place) parts text ∷ events) none = absurd none
  lines_alone (Bad cause ∷ events) none = one_alone (Bad cause) events refl refl (lines_alone events none)
  lines_alone (CutFront bytes ∷ events) none = one_alone (CutFront bytes) events refl refl (lines_alone events none)
  lines_alone (CutTail bytes ∷ events) none = one_alone (CutTail bytes) events refl refl (lines_alone events none)

-- ---- two marks of a tape

-- how many were dropped since the last that was sent whole, behind these marks
abbrev dropped_over : Option ℕ → List Mark → Option ℕ
dropped_over dropped [] = dropped
dropped_over dropped (m ∷ ms) = dropped_over (dropped_behind m.fate dropped) ms

over-append : (dropped : Option ℕ) (xs ys : List Mark) → dropped_over dropped (xs ++ ys) ≡ dropped_over (dropped_over dropped xs) ys
over-append dropped [] ys = refl
over-append dropped (m ∷ xs) ys = over-append (dropped_behind m.fate dropped) xs ys

tape-append : (only : Option Rules) (s : Script) (dropped : Option ℕ) (xs ys : List Mark)
    → tape_lines only s dropped (xs ++ ys) ≡ tape_lines only s dropped xs ++ tape_lines only s (dropped_over dropped xs) ys
tape-append only s dropped [] ys = refl
tape-append only s dropped (m ∷ xs) ys =
    let line : List ℕ = tape_line m.fate dropped (shows_mark only s m) (mark_line s m) in
    let behind : Option ℕ = dropped_behind m.fate dropped in
    ap (λ (l : List ℕ). line ++ l) (tape-append only s behind xs ys)
    ∙ sym (append_assoc line (tape_lines only s behind xs) (tape_lines only s (dropped_over behind xs) ys))

one_more : (fate : Fate) (d : ℕ) → WasDropped fate → dropped_behind fate (Some d) ≡ Some (d + 1)
one_more Whole d was = absurd was
one_more (Dropped need room) d was = refl
one_more (Cut need room) d was = absurd was

count_dropped : (d n : ℕ) (ms : List Mark) → n ≡ d + length ms → WereDropped ms → dropped_over (Some d) ms ≡ Some n
count_dropped d n [] is were = ap (λ (k : ℕ). Some k) (let e : d ≡ n = omega (arith, is) in e)
count_dropped d n (m ∷ ms) is were =
    ap (λ (o : Option ℕ). dropped_over o ms) (one_more m.fate d were.0) ∙ count_dropped (d + 1) n ms (omega (arith, is)) were.1

pub marks_between : (only : Option Rules) (s : Script) (before between after : List Mark) (a b : Mark) → IsWhole a → IsWhole b → WereDropped between
    → tape_lines only s None (before ++ a ∷ between ++ b ∷ after)
    ≡ tape_lines only s None (before ++ a ∷ between)
    ++ (gap_line (length between) ++ kept_line (shows_mark only s b) (mark_line s b)) ++ tape_lines only s (Some 0) after
marks_between only s before between after a b a_whole b_whole were =
    let seen : List Mark = before ++ a ∷ between in
    let count : ℕ = length between in
    let behind : Option ℕ = dropped_over None before in
    let shown : List ℕ = kept_line (shows_mark only s b) (mark_line s b) in
    let dropped : dropped_over None seen ≡ Some count =
    over-append None before (a ∷ between)
    ∙ ap (λ (f : Fate). dropped_over (dropped_behind f behind) between) a_whole
    ∙ count_dropped 0 count between (omega arith) were in
    tape-append only s None seen (b ∷ after)
    ∙ ap (λ (o : Option ℕ). tape_lines only s None seen ++ tape_lines only s o (b ∷ after)) dropped
    ∙ ap (λ (f : Fate). tape_lines only s None seen ++ (tape_line f (Some count) (shows_mark only s b) (mark_line s b) ++ tape_lines only s (dropped_behind f (Some count)) after)) b_whole
    ∙ sym (append_assoc (tape_lines only s None seen) (gap_line count ++ shown) (tape_lines only s (Some 0) after))
