-- What a reporter prints of events does not depend on its counts, which add up.
use Rattle.std.proofs.Common.{◌≡◌, ◌≤◌, ◌+◌, ℕ, min, List, [], ◌∷◌, ◌++◌, refl, sym, ◌∙◌, ap, arith}
use Rattle.std.specs.Prelude.{Option}
use Rattle.dl_io.specs.Outside.{last_count}
use Rattle.defmt_decode.specs.declared.event.Event.{Event}
use Rattle.defmt_listen.specs.Heard.{lines_from, state_behind}
use Rattle.defmt_recording.specs.Output.{last_behind}
use Rattle.defmt_recording.specs.Styled.{Look, Reel, by_style, counted, is_cut, is_failing, reel, reel_behind, styled_line}
use Rattle.defmt_recording.proofs.Tallies.{cuts_is, failing_is, tally_is}

pub look_is : (s : Reel) (es : List Event) → (state_behind by_style s es).look ≡ s.look
look_is s [] = refl
look_is s (e ∷ es) = look_is (reel_behind s e) es

lines_same : (l : Look) (last : Option ℕ) (f c g d : ℕ) (es : List Event) → lines_from by_style (reel l last f c) es ≡ lines_from by_style (reel l last g d) es
lines_same l last f c g d [] = refl
lines_same l last f c g d (e ∷ es) =
    ap (λ (x : List ℕ). styled_line l last e ++ x)
    (lines_same l (last_behind last e) (counted f (is_failing l e)) (counted c (is_cut e)) (counted g (is_failing l e)) (counted d (is_cut e)) es)

last_same : (l : Look) (last : Option ℕ) (f c g d : ℕ) (es : List Event) → (state_behind by_style (reel l last f c) es).last ≡ (state_behind by_style (reel l last g d) es).last
last_same l last f c g d [] = refl
last_same l last f c g d (e ∷ es) =
    last_same l (last_behind last e) (counted f (is_failing l e)) (counted c (is_cut e)) (counted g (is_failing l e)) (counted d (is_cut e)) es

reel_is : (s : Reel) (l : Look) (last : Option ℕ) (f c : ℕ) → s.look ≡ l → s.last ≡ last → s.failing ≡ f → s.cuts ≡ c → s ≡ reel l last f c
reel_is s l last f c look_ last_ failing_ cuts_ =
    ap (λ (x : Look). reel x s.last s.failing s.cuts) look_ ∙ ap (λ (x : Option ℕ). reel l x s.failing s.cuts) last_
    ∙ ap (λ (x : ℕ). reel l last x s.cuts) failing_ ∙ ap (λ (x : ℕ). reel l last f x) cuts_

module _ (s : Reel) (es : List Event) (failing_fits : s.failing ≤ last_count) (cuts_fit : s.cuts ≤ last_count) where
  from_none : Reel
  from_none = state_behind by_style (reel s.look s.last 0 0) es

  -- from a place on, whatever was counted before
  behind_is : state_behind by_style s es ≡ reel s.look from_none.last (min (s.failing + from_none.failing) last_count) (min (s.cuts + from_none.cuts) last_count)
  unfolding from_none
  behind_is = reel_is (state_behind by_style s es) s.look from_none.last (min (s.failing + from_none.failing) last_count) (min (s.cuts + from_none.cuts) last_count)
      (look_is s es) (last_same s.look s.last s.failing s.cuts 0 0 es)
      (failing_is s es ∙ tally_is (is_failing s.look) es s.failing failing_fits
      ∙ omega (arith, failing_is (reel s.look s.last 0 0) es, tally_is (is_failing s.look) es 0 (omega arith)))
      (cuts_is s es ∙ tally_is is_cut es s.cuts cuts_fit
      ∙ omega (arith, cuts_is (reel s.look s.last 0 0) es, tally_is is_cut es 0 (omega arith)))

  pub goes_behind : (last last_after : Option ℕ) (failing cuts : ℕ) (after : Reel) → s.last ≡ last
      → last_after ≡ (state_behind by_style (reel s.look last 0 0) es).last
      → failing ≡ (state_behind by_style (reel s.look last 0 0) es).failing → cuts ≡ (state_behind by_style (reel s.look last 0 0) es).cuts
      → after ≡ reel s.look last_after (min (s.failing + failing) last_count) (min (s.cuts + cuts) last_count)
      → after ≡ state_behind by_style s es
  unfolding behind_is from_none
  goes_behind last last_after failing cuts after last_is place_is failing_is cuts_is after_is =
      let other : Reel = state_behind by_style (reel s.look last 0 0) es in
      let same : other ≡ from_none = ap (λ (o : Option ℕ). state_behind by_style (reel s.look o 0 0) es) (sym last_is) in
      after_is
      ∙ ap (λ (o : Option ℕ). reel s.look o (min (s.failing + failing) last_count) (min (s.cuts + cuts) last_count)) place_is
      ∙ ap (λ (n : ℕ). reel s.look other.last (min (s.failing + n) last_count) (min (s.cuts + cuts) last_count)) failing_is
      ∙ ap (λ (n : ℕ). reel s.look other.last (min (s.failing + other.failing) last_count) (min (s.cuts + n) last_count)) cuts_is
      ∙ ap (λ (o : Reel). reel s.look o.last (min (s.failing + o.failing) last_count) (min (s.cuts + o.cuts) last_count)) same ∙ sym behind_is

  pub lines_are : (last : Option ℕ) (lines : List ℕ) → s.last ≡ last → lines ≡ lines_from by_style (reel s.look last 0 0) es → lines ≡ lines_from by_style s es
  lines_are last lines last_is is =
      is ∙ ap (λ (o : Option ℕ). lines_from by_style (reel s.look o 0 0) es) (sym last_is) ∙ lines_same s.look s.last 0 0 s.failing s.cuts es
