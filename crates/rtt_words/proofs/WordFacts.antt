-- Each step keeps the facts.
use Rattle.std.proofs.Common.{length-take-le, get_or-take, get_or-drop, length-drop, Option, ◌-◌, ◌/◌, ◌*◌, ◌≡◌, ℕ, suc, ◌+◌, ◌%◌, ◌<◌, ◌≤◌, List, ◌++◌, length, take, drop, set, Some, None, sym, ap, ◌∙◌, subst, ⊎_elim, div-add-mod', append_assoc, append-nil, length-append, length-set, get_or-set_other, get_or-set_same, arith}
use Rattle.std.specs.Prelude.{slice_index}
use mathlib.Core.Option.{some}
use native.Mathlib.Decide.{ℕ_discrete, dec_le}
use lib.ListN.{get_elem?}
use Rattle.atomic_table.proofs.Lists.{one_turn}
use Rattle.rtt_words.specs.declared.view.UpView.{UpView}
use Rattle.rtt_words.specs.declared.view.DownView.{DownView}
use Rattle.rtt_words.specs.History.{IsTold}
use Rattle.rtt_words.specs.WordRule.{Facts, Mixes, IsWhole, lanes, lane, up_looked, holds_word, put_bytes, published, down_looked, next_bytes, took_bytes, gave_back}
use Rattle.rtt_words.specs.declared.view.Access.{Access}
use Rattle.rtt_words.proofs.Histories.{loaded_now, told_loaded, stored_now, told_stored}
use Rattle.rtt_words.proofs.WordResidues.{word_of, lane_of, straight}
use Rattle.rtt_words.proofs.Fronts.{lanes_long, there, append_cases, read_as, front_at, longer_fronts}

-- what each step does to the facts
module _ (z : ℕ) (ws : List ℕ) (u : UpView) (d : DownView) (f : Facts z ws u d) where
  abbrev pub rd_loaded : List Access
  rd_loaded = loaded_now d.rd_off u.rd_off d.released f.rd_told

  pub facts_up_looked : Facts z ws (up_looked u d.released rd_loaded) d
  facts_up_looked =
      let o = f.order in record {
        sizes = f.sizes;
        order = record { freed_first = omega arith; released_next = o.released_next; got_next = o.got_next; found_last = o.found_last; room = omega arith };
        front = f.front;
        stored = f.stored;
        rd_told = told_loaded d.rd_off u.rd_off d.released f.rd_told;
        wr_told = f.wr_told;
        held = f.held;
      }

  pub facts_held : (k : ℕ) → Facts z ws (holds_word u k (slice_index ws (k + 2))) d
  facts_held k = record {
    sizes = f.sizes;
    order = f.order;
    front = f.front;
    stored = f.stored;
    rd_told = f.rd_told;
    wr_told = f.wr_told;
    held = λ j v e. same j v e;
  }
    where
      same : (j v : ℕ) → ◌≡◌ {A = Option (ℕ × ℕ)} (Some (k, slice_index ws (k + 2))) (Some (j, v)) → slice_index ws (j + 2) ≡ v
      same j v e = let x : ℕ × ℕ = (k, slice_index ws (k + 2)) in let y : ℕ × ℕ = (j, v) in let p : x ≡ y = cc in let a : k ≡ j = ap (λ (q : ℕ × ℕ). q.0) p in let b : slice_index ws (k + 2) ≡ v = ap (λ (q : ℕ × ℕ). q.1) p in ap (λ (x : ℕ). slice_index ws (x + 2)) (sym a) ∙ b

  pub facts_put : (k l v n : ℕ) (bs : List ℕ) → u.held ≡ Some (k, v) → (length u.sent + length u.staged) % z ≡ k * 8 + l → l < 8 → (length u.sent + length u.staged) % z + length bs ≤ z
      → length u.sent + length u.staged + length bs + 1 ≤ u.freed + z → Mixes v n l bs → ((t : ℕ) → t < length bs → slice_index bs t < 256) → Facts z (set ws (k + 2) n) (put_bytes u bs) d
  facts_put k l v n bs is place small inside fits mix bytes_small =
      let N : ℕ = length u.sent + length u.staged in
      let s : List ℕ = u.sent ++ u.staged in
      let as_long : length s ≡ N = length-append u.sent u.staged in
      let o = f.order in
      let some_size = f.sizes.2 in
      let wide = f.stored.wide in
      let word_there : k + 2 < length ws = omega (arith, div-add-mod' (z + 7) 8) in
      let mi = mix.inside in
      record {
        sizes = f.sizes;
        order = record { freed_first = o.freed_first; released_next = o.released_next; got_next = o.got_next; found_last = o.found_last; room = omega (arith, length-append u.staged bs) };
        front = f.front;
        stored = record {
          wide = length-set ws (k + 2) n ∙ wide;
          wr_off = get_or-set_other ws (k + 2) 0 n 0 (λ e. omega arith) ∙ f.stored.wr_off;
          rd_off = get_or-set_other ws (k + 2) 1 n 0 (λ e. omega arith) ∙ f.stored.rd_off;
          bytes = λ i c le e. ⊎_elim
              (λ (t : (i < length s) × (get_elem? s i ≡ some c)). old_byte i c le (subst (λ (x : ℕ). i < x) as_long t.0) (f.stored.bytes i c le t.1) (ℕ_discrete (i % z / 8) k))
              (λ (t : (m : ℕ) × (i ≡ length s + m) × (get_elem? bs m ≡ some c)). new_byte i c t.0 (t.1 ∙ ap (λ (x : ℕ). x + t.0) as_long) t.2 (there bs t.0 c t.2) word_there)
              (append_cases s bs c i (subst (λ (x : List ℕ). get_elem? x i ≡ some c) (sym (append_assoc u.sent u.staged bs)) e));
        };
        rd_told = f.rd_told;
        wr_told = f.wr_told;
        held = λ j w e. absurd (none_held j w e);
      }
    where
      none_held : (j w : ℕ) → ◌≡◌ {A = Option (ℕ × ℕ)} None (Some (j, w)) → ⊥
      none_held j w e = cc

      -- a lane that has a byte which isn't released is none of the new ones
      kept_lane : (i : ℕ) → d.released ≤ i → i < length u.sent + length u.staged → i % z / 8 ≡ k → Dec (l + length bs ≤ i % z % 8) → Dec (suc (i % z % 8) ≤ l) → lane n (i % z % 8) ≡ lane v (i % z % 8)
      kept_lane i le lt same (yes h) _ = mix.after (i % z % 8) h
      kept_lane i le lt same (no h) (yes h') = mix.before (i % z % 8) h'
      kept_lane i le lt same (no h) (no h') =
          let o = f.order in
          let some_size = f.sizes.2 in
          let N : ℕ = length u.sent + length u.staged in
          let q : ℕ = i % z in
          let split : q / 8 * 8 + q % 8 ≡ q = div-add-mod' q 8 in
          let t : ℕ = q % 8 - l in
          let ahead : (N + t) % z ≡ N % z + t = straight N t z (omega arith) in
          let e : i ≡ N + t = one_turn i (N + t) z (omega arith) (omega arith) (omega arith) in
          absurd (omega arith)

      old_byte : (i c : ℕ) → d.released ≤ i → i < length u.sent + length u.staged → (lane (slice_index ws (i % z / 8 + 2)) (i % z % 8) ≡ c) × (c < 256) → Dec (i % z / 8 ≡ k)
          → (lane (slice_index (set ws (k + 2) n) (i % z / 8 + 2)) (i % z % 8) ≡ c) × (c < 256)
      old_byte i c le lt old (no apart) = (ap (λ (x : ℕ). lane x (i % z % 8)) (get_or-set_other ws (k + 2) (i % z / 8 + 2) n 0 (λ e. apart (omega arith))) ∙ old.0, old.1)
      old_byte i c le lt old (yes same) =
          let q : ℕ = i % z in
          let some_size = f.sizes.2 in
          let wide = f.stored.wide in
          let kept : lane n (q % 8) ≡ lane v (q % 8) = kept_lane i le lt same (dec_le (l + length bs) (i % z % 8)) (dec_le (suc (i % z % 8)) l) in (
            ap (λ (x : ℕ). lane (slice_index (set ws (k + 2) n) (x + 2)) (q % 8)) same ∙ ap (λ (x : ℕ). lane x (q % 8)) (get_or-set_same ws (k + 2) n 0 (omega (arith, div-add-mod' (z + 7) 8))) ∙ kept
                ∙ ap (λ (x : ℕ). lane x (q % 8)) (sym (f.held k v is)) ∙ ap (λ (x : ℕ). lane (slice_index ws (x + 2)) (q % 8)) (sym same) ∙ old.0,
            old.1,
          )

      new_byte : (i c m : ℕ) → i ≡ length u.sent + length u.staged + m → get_elem? bs m ≡ some c → m < length bs → k + 2 < length ws → (lane (slice_index (set ws (k + 2) n) (i % z / 8 + 2)) (i % z % 8) ≡ c) × (c < 256)
      new_byte i c m at e lt word_there =
          let N : ℕ = length u.sent + length u.staged in
          let q : ℕ = i % z in
          let mi = mix.inside in
          let some_size = f.sizes.2 in
          let here : q ≡ N % z + m = ap (λ (x : ℕ). x % z) at ∙ straight N m z (omega arith) in
          let word : q / 8 ≡ k = word_of q k (l + m) (omega arith) (omega arith) in
          let lane_is : q % 8 ≡ l + m = lane_of q k (l + m) (omega arith) (omega arith) in
          let is_c : slice_index bs m ≡ c = read_as bs m c 0 e in (
            ap (λ (x : ℕ). lane (slice_index (set ws (k + 2) n) (x + 2)) (q % 8)) word ∙ ap (λ (x : ℕ). lane x (q % 8)) (get_or-set_same ws (k + 2) n 0 word_there) ∙ ap (lane n) lane_is ∙ mix.new_ones m lt ∙ is_c,
            subst (λ (x : ℕ). x < 256) is_c (bytes_small m lt),
          )

  abbrev pub wr_stored : List Access
  wr_stored = stored_now u.wr_off d.wr_off (length u.sent) f.wr_told (length u.sent + length u.staged)

  pub facts_published : Facts z (set ws 0 ((length u.sent + length u.staged) % z)) (published u wr_stored) d
  facts_published =
      let n : ℕ = length u.sent + length u.staged in
      let as_long : length (u.sent ++ u.staged) ≡ n = length-append u.sent u.staged in
      let o = f.order in
      let wide = f.stored.wide in
      record {
        sizes = f.sizes;
        order = record { freed_first = o.freed_first; released_next = o.released_next; got_next = o.got_next; found_last = omega arith; room = omega arith };
        front = (f.front.0 ++ u.staged, ap (λ (l : List ℕ). l ++ u.staged) f.front.1 ∙ append_assoc d.got f.front.0 u.staged);
        stored = record {
          wide = length-set ws 0 (n % z) ∙ wide;
          wr_off = get_or-set_same ws 0 (n % z) 0 (omega arith) ∙ ap (λ (k : ℕ). k % z) (sym as_long);
          rd_off = get_or-set_other ws 0 1 (n % z) 0 (λ e. omega arith) ∙ f.stored.rd_off;
          bytes = λ i c le e.
              let old = f.stored.bytes i c le (subst (λ (k : List ℕ). get_elem? k i ≡ some c) (append-nil (u.sent ++ u.staged)) e) in
              (ap (λ (x : ℕ). lane x (i % z % 8)) (get_or-set_other ws 0 (i % z / 8 + 2) (n % z) 0 (λ e. omega arith)) ∙ old.0, old.1);
        };
        rd_told = f.rd_told;
        wr_told = subst (λ (k : ℕ). IsTold wr_stored d.wr_off k) (sym as_long) (told_stored u.wr_off d.wr_off (length u.sent) f.wr_told (length u.sent + length u.staged));
        held = λ k v e. get_or-set_other ws 0 (k + 2) (n % z) 0 (λ e. omega arith) ∙ f.held k v e;
      }

  abbrev pub wr_loaded : List Access
  wr_loaded = loaded_now u.wr_off d.wr_off (length u.sent) f.wr_told

  pub facts_down_looked : Facts z ws u (down_looked d (length u.sent) wr_loaded)
  facts_down_looked =
      let o = f.order in record {
        sizes = f.sizes;
        order = record { freed_first = o.freed_first; released_next = o.released_next; got_next = omega arith; found_last = omega arith; room = o.room };
        front = f.front;
        stored = f.stored;
        rd_told = f.rd_told;
        wr_told = told_loaded u.wr_off d.wr_off (length u.sent) f.wr_told;
        held = f.held;
      }

  -- the byte that the lower end takes next
  pub byte_at : (i : ℕ) → length d.got ≤ i → i < length u.sent → get_elem? u.sent i ≡ some (lane (slice_index ws (i % z / 8 + 2)) (i % z % 8))
  byte_at i from to =
      let t = front_at u.sent u.staged i to in
      let o = f.order in
      let w = f.stored.bytes i t.0 (omega arith) t.2 in
      t.1 ∙ ap some (sym w.0)

  pub facts_took : (bs : List ℕ) → ((t : ℕ) → t < length bs → get_elem? u.sent (length d.got + t) ≡ some (slice_index bs t)) → length d.got + length bs ≤ d.found → Facts z ws u (took_bytes d bs)
  facts_took bs are some_found =
      let longer : length (d.got ++ bs) ≡ length d.got + length bs = length-append d.got bs in
      let o = f.order in
      record {
        sizes = f.sizes;
        order = record { freed_first = o.freed_first; released_next = omega arith; got_next = omega arith; found_last = o.found_last; room = o.room };
        front = longer_fronts u.sent d.got bs f.front are;
        stored = f.stored;
        rd_told = f.rd_told;
        wr_told = f.wr_told;
        held = f.held;
      }

  -- the bytes that the lower end finds in one word
  pub bytes_at : (count : ℕ) → d.size ≡ z → length d.got % z % 8 + count ≤ 8 → length d.got % z + count ≤ z → length d.got + count ≤ d.found
      → let bs = next_bytes d count (slice_index ws (length d.got % z / 8 + 2)) in (length bs ≡ count) × ((t : ℕ) → t < length bs → get_elem? u.sent (length d.got + t) ≡ some (slice_index bs t))
  bytes_at count sized inside flat found =
      let o = f.order in
      let some_size = f.sizes.2 in
      let w : ℕ = slice_index ws (length d.got % z / 8 + 2) in
      let l : ℕ = length d.got % d.size % 8 in
      let l_is : l ≡ length d.got % z % 8 = ap (λ (x : ℕ). length d.got % x % 8) sized in
      let long : length (take count (drop l (lanes w))) ≡ count = length-take-le count (drop l (lanes w)) (omega (arith, length-drop l (lanes w), lanes_long w)) in (
        long,
        λ t h.
            let i : ℕ = length d.got + t in
            let q : ℕ = i % z in
            let here : q ≡ length d.got % z + t = straight (length d.got) t z (omega arith) in
            let split : length d.got % z / 8 * 8 + length d.got % z % 8 ≡ length d.got % z = div-add-mod' (length d.got % z) 8 in
            let word : q / 8 ≡ length d.got % z / 8 = word_of q (length d.got % z / 8) (length d.got % z % 8 + t) (omega arith) (omega arith) in
            let lane_is : q % 8 ≡ l + t = lane_of q (length d.got % z / 8) (length d.got % z % 8 + t) (omega arith) (omega arith) ∙ omega arith in
            let read : slice_index (take count (drop l (lanes w))) t ≡ lane w (l + t) = get_or-take count (drop l (lanes w)) t 0 (omega arith) ∙ get_or-drop l (lanes w) t 0 in
            byte_at i (omega arith) (omega arith) ∙ ap some (ap (λ (x : ℕ). lane (slice_index ws (x + 2)) (q % 8)) word ∙ ap (lane w) lane_is ∙ sym read),
      )

  abbrev pub rd_stored : List Access
  rd_stored = stored_now d.rd_off u.rd_off d.released f.rd_told (length d.got)

  pub facts_gave_back : Facts z (set ws 1 (length d.got % z)) u (gave_back d rd_stored)
  facts_gave_back =
      let n : ℕ = length d.got % z in
      let o = f.order in
      let wide = f.stored.wide in
      record {
        sizes = f.sizes;
        order = record { freed_first = omega arith; released_next = omega arith; got_next = o.got_next; found_last = o.found_last; room = o.room };
        front = f.front;
        stored = record {
          wide = length-set ws 1 n ∙ wide;
          wr_off = get_or-set_other ws 1 0 n 0 (λ e. omega arith) ∙ f.stored.wr_off;
          rd_off = get_or-set_same ws 1 n 0 (omega arith);
          bytes = λ i c le e.
              let old = f.stored.bytes i c (omega arith) e in
              (ap (λ (x : ℕ). lane x (i % z % 8)) (get_or-set_other ws 1 (i % z / 8 + 2) n 0 (λ e. omega arith)) ∙ old.0, old.1);
        };
        rd_told = told_stored d.rd_off u.rd_off d.released f.rd_told (length d.got);
        wr_told = f.wr_told;
        held = λ k v e. get_or-set_other ws 1 (k + 2) n 0 (λ e. omega arith) ∙ f.held k v e;
      }

  pub facts_joined : Facts z ws (record u { held = None }) d
  facts_joined = record {
    rd_told = f.rd_told;
    wr_told = f.wr_told;
    sizes = f.sizes;
    order = f.order;
    front = f.front;
    stored = f.stored;
    held = λ j v e. absurd (no_word j v e);
  }
    where
      no_word : (j w : ℕ) → ◌≡◌ {A = Option (ℕ × ℕ)} None (Some (j, w)) → ⊥
      no_word j w e = cc

  pub is_whole : IsWhole u d
  is_whole =
      let o = f.order in
      let sized = f.sizes.0 in
      (omega arith, f.front, omega arith)
