-- Each step keeps how the views stand.
use Rattle.std.proofs.Common.{◌≡◌, ◌≢◌, ℕ, List, set, sym, refl, ap, ◌∙◌, subst, inr, ⊎_elim}
use mathlib.Core.Option.{some, some-injective}
use lib.ListN.{get_elem?}
use Rattle.atomic_table.proofs.Lists.{at_set, set_here, set_else}
use Rattle.rtt_words.specs.declared.view.UpView.{UpView}
use Rattle.rtt_words.specs.declared.view.DownView.{DownView}
use Rattle.rtt_words.specs.declared.view.View.{View}
use Rattle.rtt_words.specs.declared.view.View.TheVariants.{Spent, Up, Down, Both}
use Rattle.rtt_words.specs.WordRule.{Knows, Stand}
use Rattle.rtt_words.proofs.Fronts.{there}

-- what each step does to the views
module _ (views : List View) (u : UpView) (d : DownView) (st : Stand views u d) (id : ℕ) where
  others_up : (u' : UpView) (j : ℕ) (v : View) → j ≢ st.upper → Knows st.upper st.lower u d j v → Knows st.upper st.lower u' d j v
  others_up u' j Spent n k = tt
  others_up u' j (Up w) n k = absurd (n k.0)
  others_up u' j (Down e) n k = k
  others_up u' j (Both w e) n k = absurd (n k.0)

  others_down : (d' : DownView) (j : ℕ) (v : View) → j ≢ st.lower → Knows st.upper st.lower u d j v → Knows st.upper st.lower u d' j v
  others_down d' j Spent n k = tt
  others_down d' j (Up w) n k = k
  others_down d' j (Down e) n k = absurd (n k.0)
  others_down d' j (Both w e) n k = absurd (n k.1)

  pub up_is : (w : UpView) → get_elem? views id ≡ some (Up w) → (id ≡ st.upper) × (w ≡ u)
  up_is w at = st.each id (Up w) at

  pub down_is : (w : DownView) → get_elem? views id ≡ some (Down w) → (id ≡ st.lower) × (w ≡ d)
  down_is w at = st.each id (Down w) at

  pub stand_up : (w u' : UpView) → get_elem? views id ≡ some (Up w) → Stand (set views id (Up u')) u' d
  stand_up w u' at =
      let is = st.each id (Up w) at in
      let here = set_here views id (Up u') (there views id (Up w) at) in
      record {
        upper = st.upper;
        lower = st.lower;
        there = ⊎_elim
            (λ (t : (st.upper ≡ st.lower) × (get_elem? views st.upper ≡ some (Both u d))). absurd (two w u d (some-injective (Up w) (Both u d) (sym at ∙ ap (get_elem? views) is.0 ∙ t.1))))
            (λ (t : (st.upper ≢ st.lower) × (get_elem? views st.upper ≡ some (Up u)) × (get_elem? views st.lower ≡ some (Down d))).
            inr (t.0, ap (get_elem? (set views id (Up u'))) (sym is.0) ∙ here, set_else views id st.lower (Up u') (λ e. t.0 (sym (e ∙ is.0))) ∙ t.2))
            st.there;
        each = λ j v e. ⊎_elim
            (λ (t : (j ≡ id) × (Up u' ≡ v)). subst (Knows st.upper st.lower u' d j) t.1 (t.0 ∙ is.0, refl))
            (λ (t : (j ≢ id) × (get_elem? views j ≡ some v)). others_up u' j v (λ e. t.0 (e ∙ sym is.0)) (st.each j v t.1))
            (at_set views id j (Up u') v e);
      }
    where
      two : (w u : UpView) (d : DownView) → Up w ≡ Both u d → ⊥
      two w u d e = cc

  pub stand_down : (w d' : DownView) → get_elem? views id ≡ some (Down w) → Stand (set views id (Down d')) u d'
  stand_down w d' at =
      let is = st.each id (Down w) at in
      let here = set_here views id (Down d') (there views id (Down w) at) in
      record {
        upper = st.upper;
        lower = st.lower;
        there = ⊎_elim
            (λ (t : (st.upper ≡ st.lower) × (get_elem? views st.upper ≡ some (Both u d))). absurd (two w u d (some-injective (Down w) (Both u d) (sym at ∙ ap (get_elem? views) (is.0 ∙ sym t.0) ∙ t.1))))
            (λ (t : (st.upper ≢ st.lower) × (get_elem? views st.upper ≡ some (Up u)) × (get_elem? views st.lower ≡ some (Down d))).
            inr (t.0, set_else views id st.upper (Down d') (λ e. t.0 (e ∙ is.0)) ∙ t.1, ap (get_elem? (set views id (Down d'))) (sym is.0) ∙ here))
            st.there;
        each = λ j v e. ⊎_elim
            (λ (t : (j ≡ id) × (Down d' ≡ v)). subst (Knows st.upper st.lower u d' j) t.1 (t.0 ∙ is.0, refl))
            (λ (t : (j ≢ id) × (get_elem? views j ≡ some v)). others_down d' j v (λ e. t.0 (e ∙ sym is.0)) (st.each j v t.1))
            (at_set views id j (Down d') v e);
      }
    where
      two : (w : DownView) (u : UpView) (d : DownView) → Down w ≡ Both u d → ⊥
      two w u d e = cc
