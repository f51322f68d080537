-- The marks of a tape, one more at a time.
use Rattle.std.proofs.Common.{◌≡◌, ◌<◌, ◌+◌, ◌&&◌, ℕ, Bool, true, false, List, [], ◌∷◌, ◌++◌, Some, None, cond, length, drop, get_or, refl, sym, ◌∙◌, ap, append_assoc, arith}
use Rattle.std.specs.Prelude.{filter, if◌then◌else◌, Option}
use Rattle.std.proofs.lemmas.List.{drop_more}
use Rattle.defmt_decode.specs.declared.event.Event.{Event}
use Rattle.defmt_decode.specs.declared.event.Event.TheVariants.{Line}
use Rattle.defmt_encode.specs.Placed.{place_in}
use Rattle.defmt_logger.specs.Tape.{mark_line}
use Rattle.defmt_logger.specs.declared.mark.Mark.{Mark}
use Rattle.defmt_print.specs.Groups.{look_of, writer_line, writer_lines}
use Rattle.defmt_print.specs.Heard.{event_by, mark_events, parts_at}
use Rattle.defmt_print.specs.Printed.{mark_statement}
use Rattle.defmt_print.specs.RunLines.{tape_failing}
use Rattle.defmt_recording.specs.Styled.{is_failing, level_at, prints_index, reaches}
use Rattle.defmt_script.specs.Script.{Script}
use Rattle.defmt_values.specs.declared.value.Statement.{Statement}
use Rattle.defmt_words.specs.declared.style.Style.{Style}
use Rattle.rtt_modes.specs.declared.fate.Fate.{Fate}
use Rattle.rtt_modes.specs.declared.fate.Fate.TheVariants.{Whole, Dropped, Cut}

module _ (style : Style) (s : Script) (tape : List Mark) (i : ℕ) (m : Mark) (within : i < length tape) (at : get_or tape i m ≡ m) where
  next : drop i tape ≡ m ∷ drop (i + 1) tape
  next = drop_more tape i m within ∙ ap (λ (x : Mark). x ∷ drop (i + 1) tape) at

  -- the lines of a writer, where those of the marks behind are still to come
  pub one_mark : (writer : ℕ) (old now after : List ℕ) → now ++ writer_lines style s writer i (drop i tape) ≡ old → after ≡ now ++ writer_line style s writer i m
      → after ++ writer_lines style s writer (i + 1) (drop (i + 1) tape) ≡ old
  one_mark writer old now after goes is =
      let line : List ℕ = writer_line style s writer i m in
      let rest : List ℕ = writer_lines style s writer (i + 1) (drop (i + 1) tape) in
      ap (λ (l : List ℕ). l ++ rest) is ∙ append_assoc now line rest ∙ ap (λ (l : List ℕ). now ++ l) (sym (ap (writer_lines style s writer i) next)) ∙ goes

  -- and how many lines make the program fail
  pub one_count : (all now after : ℕ) → now + tape_failing style s i (drop i tape) ≡ all → after ≡ now + length (filter (is_failing (look_of style s)) (mark_events s i m))
      → after + tape_failing style s (i + 1) (drop (i + 1) tape) ≡ all
  one_count all now after goes is =
      let count : ℕ = length (filter (is_failing (look_of style s)) (mark_events s i m)) in
      let rest : ℕ = tape_failing style s (i + 1) (drop (i + 1) tape) in
      let split : tape_failing style s i (drop i tape) ≡ count + rest = ap (tape_failing style s i) next in
      omega (arith, goes, is, split)

-- ---- one mark

count_one : (b : Bool) (e : Event) → (if b then 1 else 0) ≡ length (cond {A = List Event} b (e ∷ []) [])
count_one true e = refl
count_one false e = refl

-- whose frame was sent whole, with a statement
pub failing_whole : (style : Style) (s : Script) (number : ℕ) (m : Mark) (stm : Statement) → m.fate ≡ Whole → mark_statement s m ≡ Some stm
    → (if prints_index style.only s.table stm.index && reaches style.fail_on (level_at s.table stm.index) then 1 else 0)
    ≡ length (filter (is_failing (look_of style s)) (mark_events s number m))
unfolding is_failing
failing_whole style s number m stm whole found =
    let place : Option ℕ = place_in s.settings.profile number in
    let parts = parts_at s number m.stamp in
    count_one (prints_index style.only s.table stm.index && reaches style.fail_on (level_at s.table stm.index)) (Line stm.index place (parts stm) (mark_line s m))
    ∙ ap (λ (o : Option Statement). length (filter (is_failing (look_of style s)) (event_by Whole place o parts (mark_line s m)))) (sym found)
    ∙ ap (λ (f : Fate). length (filter (is_failing (look_of style s)) (event_by f place (mark_statement s m) parts (mark_line s m)))) (sym whole)

none_by : (style : Style) (s : Script) (number : ℕ) (m : Mark) (fate : Fate)
    → 0 ≡ length (filter (is_failing (look_of style s)) (event_by fate (place_in s.settings.profile number) None (parts_at s number m.stamp) (mark_line s m)))
none_by style s number m Whole = refl
none_by style s number m (Dropped need room) = refl
none_by style s number m (Cut need room) = refl

-- without one
pub failing_none : (style : Style) (s : Script) (number : ℕ) (m : Mark) → mark_statement s m ≡ None → 0 ≡ length (filter (is_failing (look_of style s)) (mark_events s number m))
failing_none style s number m none =
    none_by style s number m m.fate ∙ ap (λ (o : Option Statement). length (filter (is_failing (look_of style s)) (event_by m.fate (place_in s.settings.profile number) o (parts_at s number m.stamp) (mark_line s m)))) (sym none)

abbrev pub IsLost : Fate → Type 0
IsLost Whole = ⊥
IsLost (Dropped need room) = Unit {0}
IsLost (Cut need room) = Unit {0}

lost_by : (style : Style) (s : Script) (number : ℕ) (m : Mark) (fate : Fate) → IsLost fate
    → 0 ≡ length (filter (is_failing (look_of style s)) (event_by fate (place_in s.settings.profile number) (mark_statement s m) (parts_at s number m.stamp) (mark_line s m)))
lost_by style s number m Whole lost = absurd lost
lost_by style s number m (Dropped need room) lost = refl
lost_by style s number m (Cut need room) lost = refl

-- whose frame wasn't sent whole
pub failing_lost : (style : Style) (s : Script) (number : ℕ) (m : Mark) (fate : Fate) → m.fate ≡ fate → IsLost fate → 0 ≡ length (filter (is_failing (look_of style s)) (mark_events s number m))
failing_lost style s number m fate is lost =
    lost_by style s number m fate lost
    ∙ ap (λ (f : Fate). length (filter (is_failing (look_of style s)) (event_by f (place_in s.settings.profile number) (mark_statement s m) (parts_at s number m.stamp) (mark_line s m)))) (sym is)

-- ---- one of a list

one_by : {A : Type 0} (p : A → Bool) (x : A) (xs : List A) (b : Bool) → length (cond {A = List A} b (x ∷ filter p xs) (filter p xs)) ≡ (if b then 1 else 0) + length (filter p xs)
one_by p x xs true = omega arith
one_by p x xs false = omega arith

-- how many pass a test, where those behind are still to come
pub one_of : {A : Type 0} (p : A → Bool) (list : List A) (i : ℕ) (x : A) → i < length list → get_or list i x ≡ x → (all now after : ℕ) → now + length (filter p (drop i list)) ≡ all
    → after ≡ now + (if p x then 1 else 0) → after + length (filter p (drop (i + 1) list)) ≡ all
one_of {A} p list i x within at all now after goes is =
    let next : drop i list ≡ x ∷ drop (i + 1) list = drop_more list i x within ∙ ap (λ (y : A). y ∷ drop (i + 1) list) at in
    omega (arith, goes, is, ap (λ (l : List A). length (filter p l)) next, one_by p x (drop (i + 1) list) (p x))
