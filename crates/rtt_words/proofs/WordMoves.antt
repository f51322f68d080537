-- Each step keeps the rule.
use Rattle.std.proofs.Common.{Option, ◌/◌, ◌*◌, ◌≡◌, ◌≢◌, ℕ, zero, suc, ◌+◌, ◌%◌, ◌<◌, ◌≤◌, List, [], ◌∷◌, length, set, Some, None, sym, refl, ap, ◌∙◌, subst, inl, inr, ⊎_elim, mod-eq_of_lt, length-set, arith}
use Rattle.std.specs.Prelude.{slice_index}
use mathlib.Core.Option.{none, some, some-injective, some-ne-none}
use lib.ListN.{get_elem?}
use lib.Seq.{set-get_or}
use Rattle.atomic_table.specs.Table.{State, step, keeps, Allows, Splits, Joins, opening}
use Rattle.atomic_table.proofs.Lists.{at_set, set_here, set_else, set_again, at_longer, at_last}
use Rattle.rtt_words.specs.declared.view.UpView.{UpView}
use Rattle.rtt_words.specs.declared.view.DownView.{DownView}
use Rattle.rtt_words.specs.declared.view.View.{View}
use Rattle.rtt_words.specs.declared.view.View.TheVariants.{Spent, Up, Down, Both}
use Rattle.rtt_words.specs.WordRule.{Facts, Mixes, Knows, Stand, Kept, lane, new_up, new_down, fresh, up_looked, holds_word, put_bytes, published, down_looked, next_bytes, took_bytes, gave_back, loads_rd_off, loads_word, stores_bytes, stores_wr_off, loads_wr_off, loads_bytes, stores_rd_off, loads_rest}
use Rattle.rtt_words.proofs.Histories.{fresh_told, load_tells, store_tells}
use Rattle.rtt_words.proofs.Fronts.{there, snoc_cases}
use Rattle.rtt_words.proofs.WordFacts.{rd_loaded, facts_up_looked, facts_held, facts_put, wr_stored, facts_published, wr_loaded, facts_down_looked, byte_at, facts_took, bytes_at, rd_stored, facts_gave_back, facts_joined, is_whole}
use Rattle.rtt_words.proofs.WordViews.{up_is, down_is, stand_up, stand_down}

module _ {S : Type 0} (z slots id : ℕ) (c : List (ℕ × S)) where
  -- what the rule says to the upper end
  at_up : (s : State S View) → Kept z s → (u : UpView) → get_elem? s.views id ≡ some (Up u) → (d : DownView) × Facts z s.words u d × Stand s.views u d
  at_up s k u at =
      let is = up_is s.views k.up k.down k.stand id u at in
      (k.down, subst (λ (x : UpView). Facts z s.words x k.down) (sym is.1) k.facts, subst (λ (x : UpView). Stand s.views x k.down) (sym is.1) k.stand)

  at_down : (s : State S View) → Kept z s → (d : DownView) → get_elem? s.views id ≡ some (Down d) → (u : UpView) × Facts z s.words u d × Stand s.views u d
  at_down s k d at =
      let is = down_is s.views k.up k.down k.stand id d at in
      (k.up, subst (λ (x : DownView). Facts z s.words k.up x) (sym is.1) k.facts, subst (λ (x : DownView). Stand s.views k.up x) (sym is.1) k.stand)

  at_both : (s : State S View) → Kept z s → (u : UpView) (d : DownView) → get_elem? s.views id ≡ some (Both u d) → Facts z s.words u d × ((st : Stand s.views u d) × (id ≡ st.upper) × (id ≡ st.lower)) × (u.held ≡ None)
  at_both s k u d at =
      let is = k.stand.each id (Both u d) at in
      let w = subst (λ (x : UpView × DownView). Facts z s.words x.0 x.1 × ((st : Stand s.views x.0 x.1) × (id ≡ st.upper) × (id ≡ st.lower))) (λ i. (sym is.2 i, sym is.3 i)) (k.facts, (k.stand, is.0, is.1)) in (w.0, w.1, is.4)

  pub may_load_rd_off : (u : UpView) → Allows (Kept {S = S} z) slots id (Up u, c) 1 (λ n. n) (loads_rd_off (step slots 1 0 0 none) (Up u, c))
  may_load_rd_off u s k deep at bound =
      let a = at_up s k u at in
      let d = a.0 in
      let f = a.1 in
      let o = f.order in
      let h = rd_loaded z s.words u d f in
      let u' = up_looked u d.released h in (
        Up u',
        keeps,
        tt,
        record {
          up = u';
          down = d;
          facts = subst (λ (ws : List ℕ). Facts z ws u' d) (sym (set-get_or s.words 1 0)) (facts_up_looked z s.words u d f);
          stand = stand_up s.views u d a.2 id u u' at;
        },
        (d.released, h, refl, f.stored.rd_off ∙ ap (λ (k : ℕ). d.released % k) (sym f.sizes.0), o.freed_first, omega arith, load_tells d.rd_off u.rd_off d.released f.rd_told),
      )

  pub may_load_word : (u : UpView) (k : ℕ) → Allows (Kept {S = S} z) slots id (Up u, c) (k + 2) (λ n. n) (loads_word (step slots (k + 2) 0 0 none) (Up u, c))
  may_load_word u k s kept deep at bound =
      let a = at_up s kept u at in
      let d = a.0 in
      let u' = holds_word u k (slice_index s.words (k + 2)) in (
        Up u',
        keeps,
        tt,
        record {
          up = u';
          down = d;
          facts = subst (λ (ws : List ℕ). Facts z ws u' d) (sym (set-get_or s.words (k + 2) 0)) (facts_held z s.words u d a.1 k);
          stand = stand_up s.views u d a.2 id u u' at;
        },
        ap (λ (j : ℕ). (Up (holds_word u j (slice_index s.words (k + 2))), c)) (omega arith),
      )

  pub may_store_bytes : (u : UpView) (k l v n : ℕ) (bs : List ℕ) → u.held ≡ Some (k, v) → (length u.sent + length u.staged) % z ≡ k * 8 + l → l < 8 → (length u.sent + length u.staged) % z + length bs ≤ z
      → length u.sent + length u.staged + length bs + 1 ≤ u.freed + z → Mixes v n l bs → ((t : ℕ) → t < length bs → slice_index bs t < 256)
      → Allows (Kept {S = S} z) slots id (Up u, c) (k + 2) (λ _. n) (λ _. stores_bytes bs (step slots (k + 2) n 0 none) (Up u, c) n)
  may_store_bytes u k l v n bs is place small flat fits mix bytes_small s kept deep at bound =
      let a = at_up s kept u at in
      let d = a.0 in
      let u' = put_bytes u bs in (
        Up u',
        keeps,
        tt,
        record {
          up = u';
          down = d;
          facts = facts_put z s.words u d a.1 k l v n bs is place small flat fits mix bytes_small;
          stand = stand_up s.views u d a.2 id u u' at;
        },
        refl,
      )

  pub may_store_wr_off : (u : UpView) (n : ℕ) → n ≡ (length u.sent + length u.staged) % z → Allows (Kept {S = S} z) slots id (Up u, c) 0 (λ _. n) (λ _. stores_wr_off (step slots 0 n 0 none) (Up u, c) n)
  may_store_wr_off u n is s k deep at bound =
      let a = at_up s k u at in
      let d = a.0 in
      let h = wr_stored z s.words u d a.1 in
      let u' = published u h in (
        Up u',
        keeps,
        tt,
        record {
          up = u';
          down = d;
          facts = subst (λ (j : ℕ). Facts z (set s.words 0 j) u' d) (sym is) (facts_published z s.words u d a.1);
          stand = stand_up s.views u d a.2 id u u' at;
        },
        (h, refl, store_tells u.wr_off d.wr_off (length u.sent) a.1.wr_told (length u.sent + length u.staged)),
      )

  pub may_load_wr_off : (d : DownView) → Allows (Kept {S = S} z) slots id (Down d, c) 0 (λ n. n) (loads_wr_off (step slots 0 0 0 none) (Down d, c))
  may_load_wr_off d s k deep at bound =
      let a = at_down s k d at in
      let u = a.0 in
      let f = a.1 in
      let o = f.order in
      let sized = f.sizes.1 in
      let h = wr_loaded z s.words u d f in
      let d' = down_looked d (length u.sent) h in (
        Down d',
        keeps,
        tt,
        record {
          up = u;
          down = d';
          facts = subst (λ (ws : List ℕ). Facts z ws u d') (sym (set-get_or s.words 0 0)) (facts_down_looked z s.words u d f);
          stand = stand_down s.views u d a.2 id d d' at;
        },
        (length u.sent, h, refl, f.stored.wr_off ∙ ap (λ (k : ℕ). length u.sent % k) (sym sized), o.found_last, omega arith, load_tells u.wr_off d.wr_off (length u.sent) f.wr_told),
      )

  pub may_load_bytes : (d : DownView) (i count : ℕ) → d.size ≡ z → i ≡ length d.got % z / 8 + 2 → length d.got % z % 8 + count ≤ 8 → length d.got % z + count ≤ z → length d.got + count ≤ d.found
      → Allows (Kept {S = S} z) slots id (Down d, c) i (λ n. n) (loads_bytes count (step slots i 0 0 none) (Down d, c))
  may_load_bytes d i count sized is inside flat found s k deep at bound =
      let a = at_down s k d at in
      let u = a.0 in
      let f = a.1 in
      let w : ℕ = slice_index s.words i in
      let bs = next_bytes d count w in
      let d' = took_bytes d bs in
      let are = subst (λ (j : ℕ). let bs = next_bytes d count (slice_index s.words j) in (length bs ≡ count) × ((t : ℕ) → t < length bs → get_elem? u.sent (length d.got + t) ≡ some (slice_index bs t))) (sym is) (bytes_at z s.words u d f count sized inside flat found) in (
        Down d',
        keeps,
        tt,
        record {
          up = u;
          down = d';
          facts = subst (λ (ws : List ℕ). Facts z ws u d') (sym (set-get_or s.words i 0)) (facts_took z s.words u d f bs are.1 (let e = are.0 in omega arith));
          stand = stand_down s.views u d a.2 id d d' at;
        },
        refl,
      )

  pub may_store_rd_off : (d : DownView) (n : ℕ) → n ≡ length d.got % z → Allows (Kept {S = S} z) slots id (Down d, c) 1 (λ _. n) (λ _. stores_rd_off (step slots 1 n 0 none) (Down d, c) n)
  may_store_rd_off d n is s k deep at bound =
      let a = at_down s k d at in
      let u = a.0 in
      let h = rd_stored z s.words u d a.1 in
      let d' = gave_back d h in (
        Down d',
        keeps,
        tt,
        record {
          up = u;
          down = d';
          facts = subst (λ (j : ℕ). Facts z (set s.words 1 j) u d') (sym is) (facts_gave_back z s.words u d a.1);
          stand = stand_down s.views u d a.2 id d d' at;
        },
        (h, refl, store_tells d.rd_off u.rd_off d.released a.1.rd_told (length d.got)),
      )

  pub may_load_rest : (u : UpView) (d : DownView) (i : ℕ) → Allows (Kept {S = S} z) slots id (Both u d, c) i (λ n. n) (loads_rest (step slots i 0 0 none) (Both u d, c))
  may_load_rest u d i s k deep at bound =
      let a = at_both s k u d at in
      let f = a.0 in (
        Both u d,
        keeps,
        tt,
        record {
          up = u;
          down = d;
          facts = subst (λ (ws : List ℕ). Facts z ws u d) (sym (set-get_or s.words i 0)) f;
          stand = subst (λ (vs : List View). Stand vs u d) (sym (set_again s.views id (Both u d) at)) a.1.0;
        },
        (
          refl,
          is_whole z s.words u d f,
          λ j b le e w.
              let here = byte_at z s.words u d f j le (there u.sent j b e) in
              let place : j % z / 8 + 2 ≡ i = ap (λ (k : ℕ). j % k / 8 + 2) (sym f.sizes.0) ∙ w in
              ap (λ (k : ℕ). lane (slice_index s.words i) (j % k % 8)) f.sizes.0 ∙ ap (λ (k : ℕ). lane (slice_index s.words k) (j % z % 8)) (sym place) ∙ some-injective (lane (slice_index s.words (j % z / 8 + 2)) (j % z % 8)) b (sym here ∙ e),
          f.rd_told,
          f.wr_told,
        ),
      )

  pub may_split : (u : UpView) (d : DownView) → Splits (Kept {S = S} z) id (Both u d) (Up u) (Down d)
  may_split u d s k at =
      let a = at_both s k u d at in
      let st = a.1.0 in
      let now : List View = set s.views id (Up u) in
      let inside : id < length now = subst (λ (n : ℕ). id < n) (sym (length-set s.views id (Up u))) (there s.views id (Both u d) at) in record {
        up = u;
        down = d;
        facts = a.0;
        stand = record {
          upper = id;
          lower = length now;
          there = inr ((λ e. omega arith), at_longer now (Down d ∷ []) id (Up u) (set_here s.views id (Up u) (there s.views id (Both u d) at)), at_last now (Down d) (length now) refl);
          each = λ j v e. ⊎_elim
              (λ (t : (j < length now) × (get_elem? now j ≡ some v)). ⊎_elim
              (λ (t : (j ≡ id) × (Up u ≡ v)). subst (Knows id (length now) u d j) t.1 (t.0, refl))
              (λ (t : (j ≢ id) × (get_elem? s.views j ≡ some v)). alone st.upper st.lower id (length now) u d j v (λ e. t.0 (e ∙ sym a.1.1)) (λ e. t.0 (e ∙ sym a.1.2)) (st.each j v t.1))
              (at_set s.views id j (Up u) v t.1))
              (λ (t : (j ≡ length now) × (Down d ≡ v)). subst (Knows id (length now) u d j) t.1 (t.0, refl))
              (snoc_cases now (Down d) v j e);
        };
      }
    where
      alone : (a b a' b' : ℕ) (u : UpView) (d : DownView) (j : ℕ) (v : View) → j ≢ a → j ≢ b → Knows a b u d j v → Knows a' b' u d j v
      alone a b a' b' u d j Spent m n k = tt
      alone a b a' b' u d j (Up w) m n k = absurd (m k.0)
      alone a b a' b' u d j (Down e) m n k = absurd (n k.0)
      alone a b a' b' u d j (Both w e) m n k = absurd (m k.0)

  pub may_join : (u : UpView) (other : ℕ) (d : DownView) → Joins (Kept {S = S} z) id (Up u) other (Down d) (Both (record u { held = None }) d) Spent
  may_join u other d s k at apart at' =
      let U : UpView = record u { held = None } in
      let a = at_up s k u at in
      let st = a.2 in
      let was : get_elem? s.views other ≡ some (Down d) = sym (set_else s.views id other (Both U d) apart) ∙ at' in
      let mine = st.each id (Up u) at in
      let theirs = st.each other (Down d) was in
      let now : List View = set s.views id (Both U d) in record {
        up = U;
        down = d;
        facts = facts_joined z s.words u d (subst (λ (x : DownView). Facts z s.words u x) (sym theirs.1) a.1);
        stand = record {
          upper = id;
          lower = id;
          there = inl (refl, set_else now other id Spent (λ e. apart (sym e)) ∙ set_here s.views id (Both U d) (there s.views id (Up u) at));
          each = λ j v e. ⊎_elim
              (λ (t : (j ≡ other) × (Spent ≡ v)). subst (Knows id id U d j) t.1 tt)
              (λ (t : (j ≢ other) × (get_elem? now j ≡ some v)). ⊎_elim
              (λ (t' : (j ≡ id) × (Both U d ≡ v)). subst (Knows id id U d j) t'.1 (t'.0, t'.0, refl, refl, refl))
              (λ (t' : (j ≢ id) × (get_elem? s.views j ≡ some v)). alone st.upper st.lower id id u U a.0 d j v (λ e. t'.0 (e ∙ sym mine.0)) (λ e. t.0 (e ∙ sym theirs.0)) (st.each j v t'.1))
              (at_set s.views id j (Both U d) v t.1))
              (at_set now other j Spent v e);
        };
      }
    where
      alone : (a b a' b' : ℕ) (u u' : UpView) (d d' : DownView) (j : ℕ) (v : View) → j ≢ a → j ≢ b → Knows a b u d j v → Knows a' b' u' d' j v
      alone a b a' b' u u' d d' j Spent m n k = tt
      alone a b a' b' u u' d d' j (Up w) m n k = absurd (m k.0)
      alone a b a' b' u u' d d' j (Down e) m n k = absurd (n k.0)
      alone a b a' b' u u' d d' j (Both w e) m n k = absurd (m k.0)

pub opens : {S : Type 0} (z : ℕ) (ws : List ℕ) → 1 < z → length ws ≡ (z + 7) / 8 + 2 → ((i : ℕ) → slice_index ws i ≡ 0) → Kept z (opening {S = S} ws [] (fresh z))
opens z ws big wide blank = record {
  up = new_up z;
  down = new_down z;
  facts = record {
    sizes = (refl, refl, big);
    order = record { freed_first = omega arith; released_next = omega arith; got_next = omega arith; found_last = omega arith; room = omega arith };
    front = ([], refl);
    stored = record {
      wide = wide;
      wr_off = blank 0 ∙ none_left;
      rd_off = blank 1 ∙ none_left;
      bytes = λ i b le e. absurd (some-ne-none b (sym e));
    };
    rd_told = fresh_told;
    wr_told = fresh_told;
    held = λ k v e. absurd (none_held k v e);
  };
  stand = record {
    upper = 0;
    lower = 0;
    there = inl (refl, refl);
    each = one;
  };
}
  where
    none_held : (j w : ℕ) → ◌≡◌ {A = Option (ℕ × ℕ)} None (Some (j, w)) → ⊥
    none_held j w e = cc

    none_left : 0 ≡ 0 % z
    none_left = sym (mod-eq_of_lt (omega arith))

    one : (j : ℕ) (v : View) → get_elem? (fresh z ∷ []) j ≡ some v → Knows 0 0 (new_up z) (new_down z) j v
    one zero v e = subst (Knows 0 0 (new_up z) (new_down z) 0) (some-injective _ _ e) (refl, refl, refl, refl, refl)
    one (suc j) v e = absurd (some-ne-none v (sym e))
