-- What a plain ring keeps after each of its steps.
use Rattle.std.proofs.Common.{true, ◌≡◌, ◌∙◌, ℕ, ◌+◌, ◌-◌, ◌%◌, ◌<◌, ◌≤◌, List, [], ◌++◌, length, take, drop, refl, sym, ap, subst, arith, append_assoc, append-nil, length-append, length-drop, mod-lt}
use Rattle.std.proofs.Math.Nat.{mod-add-mod, mod-eq_of_lt}
use Rattle.std.proofs.lemmas.List.{drop_at, take_at}
use Rattle.std.proofs.lemmas.Bool.{ne_eqb}
use Rattle.std.specs.Prelude.{Ok, ◌∷◌}
use Rattle.rtt_control.specs.Control.{block_at}
use Rattle.rtt_control.specs.Layout.{descriptor_bytes, round, waiting, with_bytes}
use Rattle.rtt_control.proofs.RoundLemmas.{round_join}
use Rattle.rtt_ring.specs.declared.journal.Traffic.{Traffic}
use Rattle.rtt_ring.specs.Account.{capped}
use Rattle.rtt_ring.specs.Image.{base, block_of, header, part, plain_descriptor, stored}
use Rattle.rtt_ring.specs.Plain.{IsPlain, down_view, up_view}
use Rattle.rtt_words.specs.declared.view.Access.{Access}
use Rattle.rtt_words.specs.declared.view.Access.TheVariants.{Stored, Loaded}
use Rattle.rtt_words.specs.History.{IsLoaded, are_stores, last_stored}
use Rattle.rtt_words.proofs.Histories.{last_stored_append, load_counted, load_found, one_store_more}
use Rattle.rtt_ring.specs.Traffic.{IsSeen, fresh, look_down, look_up, publish_all, put_more, take_more}
use Rattle.rtt_ring.specs.Views.{Down, IsBounded, Looked, Took}
use Rattle.rtt_ring.proofs.Blocks.{block_reads, buffer_marked, front_marked, header_of, length_marked}
use Rattle.rtt_words.proofs.Residues.{between}
use Rattle.rtt_ring.proofs.Rounds.{length_round, round_mod, round_runs}
use Rattle.rtt_ring.proofs.Stores.{front_stored, length_stored, round_before, round_stored}

-- the place of a byte, by the offset that the ring keeps
place_is : (rd g size n : ℕ) → rd ≡ g % size → (rd + n) % size ≡ (g + n) % size
place_is rd g size n e = ap (λ (k : ℕ). (k + n) % size) e ∙ mod-add-mod g size n

-- the same end with its traffic told
pub up_same : (name name' : List ℕ) (size room : ℕ) (t t' : Traffic) → name' ≡ name → t' ≡ t → up_view name' size room t' ≡ up_view name size room t
up_same name name' size room t t' n e = ap (λ (x : List ℕ). up_view x size room t') n ∙ ap (λ (x : Traffic). up_view name size room x) e

pub down_same : (name name' : List ℕ) (size : ℕ) (t t' : Traffic) → name' ≡ name → t' ≡ t → down_view name' size t' ≡ down_view name size t
down_same name name' size t t' n e = ap (λ (x : List ℕ). down_view x size t') n ∙ ap (λ (x : Traffic). down_view name size x) e

-- the history after a look, and after a release
drop_front : (xs ys : List Access) → drop (length xs) (xs ++ ys) ≡ ys
drop_front [] ys = refl
drop_front (x ∷ xs) ys = drop_front xs ys

seen_by : (seen between history : List Access) (n : ℕ) → history ≡ seen ++ between → are_stores between ≡ true → last_stored 0 history ≡ n → IsSeen seen history n
seen_by seen between history n is others latest =
    let behind : drop (length seen) history ≡ between = ap (drop (length seen)) is ∙ drop_front seen between in record {
      is = is ∙ ap (λ (l : List Access). seen ++ l) (sym behind);
      others = ap are_stores behind ∙ others;
      latest = latest;
    }

seen_looked : (seen history : List Access) (n : ℕ) → IsSeen seen history n → IsSeen (history ++ Loaded n ∷ []) (history ++ Loaded n ∷ []) n
seen_looked seen history n s =
    let now : List Access = history ++ Loaded n ∷ [] in
    seen_by now [] now n (sym (append-nil now)) refl (last_stored_append 0 history (Loaded n ∷ []) ∙ s.latest)

seen_released : (seen history : List Access) (n m : ℕ) → IsSeen seen history n → IsSeen seen (history ++ Stored m ∷ []) m
seen_released seen history n m s =
    let between : List Access = drop (length seen) history in
    seen_by seen (between ++ Stored m ∷ []) (history ++ Stored m ∷ []) m (ap (λ (l : List Access). l ++ Stored m ∷ []) s.is ∙ append_assoc seen between (Stored m ∷ [])) (one_store_more between m s.others) (last_stored_append 0 history (Stored m ∷ []))

seen_load : (seen history : List Access) (n : ℕ) → IsSeen seen history n → IsLoaded seen n (history ++ Loaded n ∷ [])
seen_load seen history n s = record { between = drop (length seen) history; others = s.others; latest = ap (last_stored 0) (sym s.is) ∙ s.latest; is = ap (λ (l : List Access). l ++ Loaded n ∷ []) s.is }

-- a new ring
pub fresh_kept : (image : List ℕ) (size : ℕ) (t : Traffic) → t ≡ fresh → 15 < size → size ≤ 65536 → length image ≡ 48 + size → take 48 image ≡ block_of size 0 0 → IsPlain image size 0 0 0 0 0 0 t
fresh_kept image size t is big small wide front =
    let none : 0 % size ≡ 0 = mod-eq_of_lt (omega arith) in
    subst (λ (x : Traffic). IsPlain image size 0 0 0 0 0 0 x) (sym is) record {
      big = (big, small);
      wide = wide;
      front = front ∙ ap (λ (n : ℕ). block_of size n 0) (sym none);
      place = sym none;
      sent_is = refl;
      staged_is = refl;
      bound = omega arith;
      leaves = λ h. omega arith;
      freed = omega arith;
      found = (omega arith, omega arith);
      looked = omega arith;
      loads = refl;
      last = refl;
      told = record { is = refl; others = refl; latest = refl };
      counted = omega arith;
    }

module _ (image : List ℕ) (size rd wait staged room looks got_len : ℕ) (t : Traffic) (k : IsPlain image size rd wait staged room looks got_len t) where
  fill : wait + staged + room + 1 ≤ size
  fill = let b = k.bound in let f = k.freed in omega arith

  pub length_sent : length t.sent ≡ length t.got + wait
  length_sent =
      ap length k.sent_is ∙ length-append t.got (part image size (length t.got) wait)
      ∙ ap (λ n. length t.got + n) (length_round (drop 48 image) size (length t.got) wait)

  length_staged : length t.staged ≡ staged
  length_staged = ap length k.staged_is ∙ length_round (drop 48 image) size (length t.got + wait) staged

  -- what always holds of the upper end
  pub is_bounded : (name : List ℕ) → IsBounded (up_view name size room t)
  is_bounded name =
      let s = length_sent in
      let g = length_staged in
      let b = k.bound in
      let f = k.freed in
      record { small = omega arith; within = omega arith; fits = λ _. omega arith; leaves = λ _ h. let e = k.leaves h in omega arith; loads = λ _. k.loads; last = λ _. k.last }

  -- bytes are put
  module _ (new bytes : List ℕ) (at : ℕ) (t' : Traffic) (now : t' ≡ put_more t bytes) (is : new ≡ stored image at bytes) (some : length bytes ≤ room)
      (at_is : at ≡ (rd + (wait + staged)) % size) where
    place_of : at ≡ (length t.got + (wait + staged)) % size
    place_of = at_is ∙ place_is rd (length t.got) size (wait + staged) k.place

    inside : at < size
    inside = let b = k.big in let p = place_of in let l : (length t.got + (wait + staged)) % size < size = mod-lt (length t.got + (wait + staged)) (omega arith) in omega arith

    sent_same : part new size (length t.got) wait ≡ part image size (length t.got) wait
    sent_same =
        let f = fill in
        let e : length t.got + 0 ≡ length t.got = omega arith in
        ap (λ (l : List ℕ). part l size (length t.got) wait) is ∙ ap (λ (n : ℕ). part (stored image at bytes) size n wait) (sym e)
        ∙ round_before image bytes size at k.wide inside (omega arith) (length t.got) (wait + staged) place_of (omega arith) 0 wait (omega arith)
        ∙ ap (λ (n : ℕ). part image size n wait) e

    staged_more : part new size (length t.got + wait) (staged + length bytes) ≡ part image size (length t.got + wait) staged ++ bytes
    staged_more =
        let f = fill in
        let e : length t.got + wait + staged ≡ length t.got + (wait + staged) = omega arith in
        ap (λ (l : List ℕ). part l size (length t.got + wait) (staged + length bytes)) is
        ∙ round_join (drop 48 (stored image at bytes)) size (length t.got + wait) staged (length bytes)
        ∙ ap (λ (l : List ℕ). l ++ round (drop 48 (stored image at bytes)) size (length t.got + wait + staged) (length bytes))
        (round_before image bytes size at k.wide inside (omega arith) (length t.got) (wait + staged) place_of (omega arith) wait staged (omega arith))
        ∙ ap (λ (l : List ℕ). part image size (length t.got + wait) staged ++ l)
        (ap (λ (n : ℕ). round (drop 48 (stored image at bytes)) size n (length bytes)) e
        ∙ round_stored image bytes size at k.wide inside (omega arith) (length t.got) (wait + staged) place_of (omega arith))

    pub put_kept : IsPlain new size rd wait (staged + length bytes) (room - length bytes) looks got_len t'
    put_kept =
        let f = fill in
        subst (λ (x : Traffic). IsPlain new size rd wait (staged + length bytes) (room - length bytes) looks got_len x) (sym now) record {
          big = k.big;
          wide = ap length is ∙ length_stored image bytes size at k.wide inside (omega arith) ∙ k.wide;
          front = ap (take 48) is ∙ front_stored image bytes size at k.wide inside (omega arith) ∙ k.front;
          place = k.place;
          sent_is = k.sent_is ∙ ap (λ (l : List ℕ). t.got ++ l) (sym sent_same);
          staged_is = ap (λ (l : List ℕ). l ++ bytes) k.staged_is ∙ sym staged_more;
          bound = let b = k.bound in omega arith;
          leaves = λ h. let b = k.leaves h in omega arith;
          freed = k.freed;
          found = k.found;
          looked = k.looked;
          loads = k.loads;
          last = k.last;
          told = k.told;
          counted = k.counted;
        }

  -- the upper end looks
  module _ (t' : Traffic) (now : t' ≡ look_up t) (none : t.staged ≡ []) where
    pub look_kept : (looks' : ℕ) → looks' ≡ capped (looks + 1) → IsPlain image size rd wait staged (size - 1 - wait) looks' got_len t'
    look_kept looks' count =
        let f = fill in
        let n : staged ≡ 0 = sym length_staged ∙ ap length none in
        let c = k.looked in
        subst (λ (x : Traffic). IsPlain image size rd wait staged (size - 1 - wait) looks' got_len x) (sym now) record {
          big = k.big;
          wide = k.wide;
          front = k.front;
          place = k.place;
          sent_is = k.sent_is;
          staged_is = k.staged_is;
          bound = omega arith;
          leaves = λ h. omega arith;
          freed = omega arith;
          found = k.found;
          looked = omega arith;
          loads = load_counted t.seen (t.history ++ Loaded (length t.got) ∷ []) (length t.got) (seen_load t.seen t.history (length t.got) k.told) ∙ ap (λ (n : ℕ). n + 1) k.loads;
          last = load_found t.seen (t.history ++ Loaded (length t.got) ∷ []) (length t.got) (seen_load t.seen t.history (length t.got) k.told);
          told = seen_looked t.seen t.history (length t.got) k.told;
          counted = k.counted;
        }

    pub look_view : (name name' : List ℕ) → name' ≡ name → Looked (up_view name size room t) (up_view name' size (size - 1 - wait) t')
    look_view name name' same =
        let f = fill in
        let b = k.freed in
        let s = length_sent in
        let g : t'.freed ≡ length t.got = ap (λ (x : Traffic). x.freed) now in
        let l : t'.seen ≡ t.history ++ Loaded (length t.got) ∷ [] = ap (λ (x : Traffic). x.seen) now in
        record {
          same = up_same name name' size (size - 1 - wait) (look_up t) t' same now ∙ ap (λ (n : ℕ). record (up_view name size room t) { looks = t.up_looks + 1; room = size - 1 - wait; freed = n; seen = t.history ++ Loaded (length t.got) ∷ [] }) (sym g) ∙ ap (λ (l : List Access). record (up_view name size room t) { looks = t.up_looks + 1; room = size - 1 - wait; freed = t'.freed; seen = l }) (sym l);
          load = λ _. subst (λ (x : Traffic). IsLoaded t.seen x.freed x.seen) (sym now) (seen_load t.seen t.history (length t.got) k.told);
          later = omega arith;
          within = omega arith;
          keeps = omega arith;
          least = omega arith;
          told = λ _. omega arith;
        }

  pub look_exact : size - 1 - wait + length t.sent + 1 ≡ length t.got + size
  look_exact = let f = fill in let s = length_sent in omega arith

  -- the lower end looks
  pub look_down_kept : (t' : Traffic) → t' ≡ look_down t → IsPlain image size rd wait staged room looks got_len t'
  look_down_kept t' now =
      let s = length_sent in
      subst (λ (x : Traffic). IsPlain image size rd wait staged room looks got_len x) (sym now) record {
        big = k.big;
        wide = k.wide;
        front = k.front;
        place = k.place;
        sent_is = k.sent_is;
        staged_is = k.staged_is;
        bound = k.bound;
        leaves = k.leaves;
        freed = k.freed;
        found = (omega arith, omega arith);
        looked = k.looked;
        loads = k.loads;
        last = k.last;
        told = k.told;
        counted = k.counted;
      }

  -- and it takes bytes, or none, from the ring as it is after that look
  module _ (name name' : List ℕ) (t' : Traffic) (e : Down) (bytes : List ℕ) (same : name' ≡ name) (now : t' ≡ look_down t)
      (is : e ≡ record (down_view name' size t') { got = t'.got ++ bytes }) where
    pub take_found : e.found ≡ length t.sent
    take_found = ap (λ (d : Down). d.found) is ∙ ap (λ (x : Traffic). x.found) now

    pub take_view : Took (down_view name size t) e bytes
    take_view =
        let f = take_found in
        let d = k.found in
        let s = length_sent in
        record {
          same = is ∙ ap (λ (x : List ℕ). record (down_view x size t') { got = t'.got ++ bytes }) same
              ∙ ap (λ (x : Traffic). record (down_view name size x) { got = x.got ++ bytes }) now
              ∙ ap (λ (n : ℕ). record (down_view name size t) { got = t.got ++ bytes; found = n; looks = t.down_looks + 1 }) (sym f);
          later = omega arith;
          reached = omega arith;
        }

  -- the descriptor is written again
  module _ (new : List ℕ) (wr rd' : ℕ) (is : new ≡ with_bytes image 24 (descriptor_bytes (plain_descriptor size wr rd'))) where
    long : 48 ≤ length image
    long = let w = k.wide in omega arith

    head : take 24 image ≡ header
    head = header_of image size ((rd + wait) % size) rd k.front

    marked_front : take 48 new ≡ block_of size wr rd'
    marked_front = front_marked image new size wr rd' long is head

    marked_buffer : drop 48 new ≡ drop 48 image
    marked_buffer = buffer_marked image new size wr rd' long is head

    marked_wide : length new ≡ 48 + size
    marked_wide = length_marked image new size wr rd' long is head ∙ k.wide

  -- what is staged is published
  pub publish_kept : (new : List ℕ) (t' : Traffic) → t' ≡ publish_all t → new ≡ with_bytes image 24 (descriptor_bytes (plain_descriptor size ((rd + (wait + staged)) % size) rd))
      → IsPlain new size rd (wait + staged) 0 room looks got_len t'
  publish_kept new t' now is =
      let a : List ℕ = part image size (length t.got) wait in
      let b : List ℕ = part image size (length t.got + wait) staged in
      let f = k.found in
      subst (λ (x : Traffic). IsPlain new size rd (wait + staged) 0 room looks got_len x) (sym now) record {
        big = k.big;
        wide = marked_wide new ((rd + (wait + staged)) % size) rd is;
        front = marked_front new ((rd + (wait + staged)) % size) rd is;
        place = k.place;
        sent_is = ap (λ (l : List ℕ). l ++ t.staged) k.sent_is ∙ ap (λ (l : List ℕ). (t.got ++ a) ++ l) k.staged_is ∙ append_assoc t.got a b
            ∙ ap (λ (l : List ℕ). t.got ++ l) (sym (round_join (drop 48 image) size (length t.got) wait staged))
            ∙ ap (λ (l : List ℕ). t.got ++ round l size (length t.got) (wait + staged)) (sym (marked_buffer new ((rd + (wait + staged)) % size) rd is));
        staged_is = refl;
        bound = let b = k.bound in omega arith;
        leaves = λ h. let b = k.leaves h in omega arith;
        freed = k.freed;
        found = (f.0, omega arith);
        looked = k.looked;
        loads = k.loads;
        last = k.last;
        told = k.told;
        counted = k.counted;
      }

  -- the two runs of the first bytes that wait
  pub runs_are : (buffer : List ℕ) (n m : ℕ) → buffer ≡ drop 48 image → rd + n ≤ size → m ≤ size → (0 < m → rd + n ≡ size) → take n (drop rd buffer) ++ take m buffer ≡ part image size (length t.got) (n + m)
  runs_are buffer n m is h l e =
      let w = k.wide in
      let len : size ≤ length buffer = omega (arith, ap length is, length-drop 48 image) in
      round_runs buffer size rd n m len h l e ∙ ap (λ (b : List ℕ). round b size rd (n + m)) is
      ∙ ap (λ (i : ℕ). round (drop 48 image) size i (n + m)) k.place ∙ round_mod (drop 48 image) size (length t.got) (n + m)

  -- bytes are released
  pub release_kept : (new bytes : List ℕ) (got_len' : ℕ) (t' : Traffic) → t' ≡ take_more t bytes → length bytes ≤ wait → bytes ≡ part image size (length t.got) (length bytes)
      → length t.got + length bytes ≤ t.found → got_len' ≡ capped (got_len + length bytes)
      → new ≡ with_bytes image 24 (descriptor_bytes (plain_descriptor size (((rd + length bytes) % size + (wait - length bytes)) % size) ((rd + length bytes) % size)))
      → IsPlain new size ((rd + length bytes) % size) (wait - length bytes) staged room looks got_len' t'
  release_kept new bytes got_len' t' now fits bytes_are known count_is is =
      let b : List ℕ = drop 48 image in
      let same = marked_buffer new (((rd + length bytes) % size + (wait - length bytes)) % size) ((rd + length bytes) % size) is in
      let len = length-append t.got bytes in
      let left : ℕ = wait - length bytes in
      let whole : length bytes + left ≡ wait = omega arith in
      let behind : length t.got + wait ≡ length (t.got ++ bytes) + left = omega arith in
      let joined : part image size (length t.got) wait ≡ bytes ++ round b size (length t.got + length bytes) left =
      ap (λ (n : ℕ). round b size (length t.got) n) (sym whole) ∙ round_join b size (length t.got) (length bytes) left
      ∙ ap (λ (l : List ℕ). l ++ round b size (length t.got + length bytes) left) (sym bytes_are) in
      let c = k.counted in
      let d = k.found in
      let o = k.bound in
      let g = k.freed in
      subst (λ (x : Traffic). IsPlain new size ((rd + length bytes) % size) (wait - length bytes) staged room looks got_len' x) (sym now) record {
        big = k.big;
        wide = marked_wide new (((rd + length bytes) % size + (wait - length bytes)) % size) ((rd + length bytes) % size) is;
        front = marked_front new (((rd + length bytes) % size + (wait - length bytes)) % size) ((rd + length bytes) % size) is;
        place = place_is rd (length t.got) size (length bytes) k.place ∙ ap (λ (n : ℕ). n % size) (sym len);
        sent_is = k.sent_is ∙ ap (λ (l : List ℕ). t.got ++ l) joined ∙ sym (append_assoc t.got bytes (round b size (length t.got + length bytes) left))
            ∙ ap (λ (n : ℕ). (t.got ++ bytes) ++ round b size n left) (sym len)
            ∙ ap (λ (l : List ℕ). (t.got ++ bytes) ++ round l size (length (t.got ++ bytes)) left) (sym same);
        staged_is = k.staged_is ∙ ap (λ (n : ℕ). round b size n staged) behind
            ∙ ap (λ (l : List ℕ). round l size (length (t.got ++ bytes) + left) staged) (sym same);
        bound = omega arith;
        leaves = λ h. let b = k.leaves h in omega arith;
        freed = omega arith;
        found = (omega arith, omega arith);
        looked = k.looked;
        loads = k.loads;
        last = k.last;
        told = seen_released t.seen t.history (length t.got) (length (t.got ++ bytes)) k.told;
        counted = omega arith;
      }

  -- the bytes that wait are those sent and not taken
  pub waits : part image size (length t.got) wait ≡ drop (length t.got) t.sent
  waits = sym (ap (λ (l : List ℕ). drop (length t.got) l) k.sent_is ∙ drop_at t.got (part image size (length t.got) wait) (length t.got) refl)

  pub first_waits : (n : ℕ) → n ≤ wait → part image size (length t.got) n ≡ take n (drop (length t.got) t.sent)
  first_waits n le =
      let b : List ℕ = drop 48 image in
      let g : ℕ = length t.got in
      let whole : n + (wait - n) ≡ wait = omega arith in
      sym (ap (take n) (sym waits ∙ ap (λ (m : ℕ). round b size g m) (sym whole) ∙ round_join b size g n (wait - n))
      ∙ take_at (round b size g n) (round b size (g + n) (wait - n)) n (length_round b size g n))

  -- the image tells them
  pub image_waits : waiting image base (plain_descriptor size (length t.sent % size) (length t.got % size)) ≡ drop (length t.got) t.sent
  unfolding waiting
  image_waits =
      let b = k.big in
      let f = fill in
      let some : size ≡ 0 → ⊥ = λ e. absurd (omega arith) in
      let g : ℕ = length t.got in
      let count : (length t.sent % size + size - g % size) % size ≡ wait =
      ap (λ (n : ℕ). (n % size + size - g % size) % size) length_sent ∙ between g wait size (omega arith) in
      rw (ne_eqb size 0 some)
      (ap (λ (n : ℕ). round (drop 48 image) size (g % size) n) count ∙ round_mod (drop 48 image) size g wait ∙ waits)

  -- and its block is the ring's
  pub image_block : block_at image base 0 ≡ Ok (record { up = plain_descriptor size (length t.sent % size) (length t.got % size) ∷ []; down = [] })
  image_block =
      let b = k.big in
      let wr : ℕ = (rd + wait) % size in
      let wr_lt : wr < size = mod-lt (rd + wait) (omega arith) in
      let rd_lt : rd < size = let l : length t.got % size < size = mod-lt (length t.got) (omega arith) in let e = k.place in omega arith in
      let wr_is : wr ≡ length t.sent % size = place_is rd (length t.got) size wait k.place ∙ ap (λ (n : ℕ). n % size) (sym length_sent) in
      block_reads image size wr rd k.wide b.0 b.1 wr_lt rd_lt k.front
      ∙ ap (λ (x : ℕ). Ok (record { up = plain_descriptor size x rd ∷ []; down = [] })) wr_is
      ∙ ap (λ (x : ℕ). Ok (record { up = plain_descriptor size (length t.sent % size) x ∷ []; down = [] })) k.place
