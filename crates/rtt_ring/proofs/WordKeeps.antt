-- What the two ends keep, over plain data.
use Rattle.std.proofs.Common.{◌≡◌, ℕ, ◌+◌, ◌-◌, ◌%◌, ◌<◌, ◌≤◌, min, List, [], ◌∷◌, ◌++◌, length, length-take-le, length-drop, get_or-take, get_or-drop, ◌*◌, ◌/◌, div-add-mod', take, drop, length-append, append-nil, sym, refl, ap, ◌∙◌, subst, arith}
use Rattle.std.specs.Prelude.{slice_index}
use Rattle.rtt_words.specs.declared.view.UpView.{UpView}
use Rattle.rtt_words.specs.declared.view.DownView.{DownView}
use lib.ListN.{get_elem?}
use mathlib.Core.Option.{some}
use Rattle.rtt_words.proofs.Histories.{load_counted, load_found}
use Rattle.rtt_words.proofs.Fronts.{front_at, lanes_long}
use Rattle.rtt_words.proofs.WordResidues.{gap_up, gap_down, straight, turned, word_of, lane_of}
use Rattle.rtt_words.specs.Told.{FoundReleased, FoundPublished}
use Rattle.rtt_words.specs.WordRule.{StartsWith, IsWhole, lanes, lane, put_bytes, took_bytes, next_bytes}
use Rattle.rtt_ring.specs.Account.{capped}
use Rattle.rtt_ring.specs.WordKept.{IsUp, IsDown, IsNext, IsAhead}

-- the place after a stretch is that of the next number
pub next_is : (at n count z to : ℕ) → 0 < z → at ≡ n % z → at + count ≤ z → IsNext at count z to → count ≤ z → to ≡ (n + count) % z
next_is at n count z to big is flat (Rattle.std.proofs.Common.inl t) le = t.1 ∙ ap (λ (x : ℕ). x + count) is ∙ sym (straight n count z (subst (λ (x : ℕ). x + count < z) is t.0))
next_is at n count z to big is flat (Rattle.std.proofs.Common.inr t) le = t.1 ∙ sym (turned n count z big (subst (λ (x : ℕ). x + count ≡ z) is t.0))

-- how far a place is ahead is the distance of the numbers
pub ahead_is : (a b z n : ℕ) → a ≤ b → b < a + z → IsAhead (a % z) (b % z) z n → n + a ≡ b
ahead_is a b z n le lt (Rattle.std.proofs.Common.inl t) = let h = t.0 in let e = t.1 in let g = gap_up a b z le lt h in omega arith
ahead_is a b z n le lt (Rattle.std.proofs.Common.inr t) = let h = t.0 in let e = t.1 in let g = gap_down a b z le lt h in omega arith

-- a count that stands still at the type's end
capped_next : (c c' n m : ℕ) → c ≡ capped n → c' ≡ min (c + m) 18446744073709551615 → c' ≡ capped (n + m)
capped_next c c' n m is e = omega arith

-- how far the writer is ahead of what was found released
pub look_room : {u v : UpView} {size at room looks count : ℕ} (k : IsUp u size at room looks count) (n used : ℕ)
    → u.staged ≡ [] → FoundReleased u n v → IsAhead n at size used → (used + v.freed ≡ length u.sent) × (used + 1 ≤ size)
look_room {u = U} {v = v} {size = size} {at = at} k n used none f far =
    let h = k.has_room in
    let r : ℕ = v.freed in
    let le = f.later in
    let up = f.within in
    let short : length U.staged ≡ 0 = ap length none in
    let here : at ≡ length U.sent % size = k.place ∙ ap (λ (x : ℕ). x % size) (omega arith) in
    let there : n ≡ r % size = f.read ∙ ap (λ (x : ℕ). r % x) k.sized in
    let gap : used + r ≡ length U.sent = ahead_is r (length U.sent) size used up (omega arith) (subst (λ (x : ℕ × ℕ). IsAhead x.0 x.1 size used) (λ i. (there i, here i)) far) in
    (gap, omega arith)

module _ (U V : UpView) (size at room looks count : ℕ) (k : IsUp U size at room looks count) where
  pub put_keeps : (bs : List ℕ) (at' room' count' : ℕ) → V ≡ put_bytes U bs → at + length bs ≤ size → IsNext at (length bs) size at' → room ≡ room' + length bs → count' ≡ min (count + length bs) 18446744073709551615
      → IsUp V size at' room' looks count'
  put_keeps bs at' room' count' now flat next fewer more =
      let n : ℕ = length U.sent + length U.staged in
      let longer : length U.sent + length (U.staged ++ bs) ≡ n + length bs = omega (arith, length-append U.staged bs) in
      let big = k.big.0 in
      subst (λ (x : UpView). IsUp x size at' room' looks count') (sym now) record {
        big = k.big;
        sized = k.sized;
        place = next_is at n (length bs) size at' (omega arith) k.place flat next (omega arith) ∙ ap (λ (x : ℕ). x % size) (sym longer);
        has_room = let h = k.has_room in omega arith;
        leaves = λ l. let h = k.leaves l in omega arith;
        within = k.within;
        looked = k.looked;
        counted = capped_next count count' n (length bs) k.counted more ∙ ap capped (sym longer);
        loads = k.loads;
        last = k.last;
      }

  pub look_keeps : (n used room' looks' : ℕ) → U.staged ≡ [] → FoundReleased U n V → IsAhead n at size used → room' + used + 1 ≡ size → looks' ≡ min (looks + 1) 18446744073709551615
      → IsUp V size at room' looks' count
  look_keeps n used room' looks' none f far left more =
      let h = k.has_room in
      let short : length U.staged ≡ 0 = ap length none in
      let gap = (look_room {u = U} {v = V} k n used none f far).0 in
      let r : ℕ = V.freed in
      let now : V ≡ record U { freed = r; looks = U.looks + 1; rd_off = V.rd_off } = f.same in
      subst (λ (x : UpView). IsUp x size at room' looks' count) (sym now) record {
        big = k.big;
        sized = k.sized;
        place = k.place;
        has_room = omega arith;
        leaves = λ _. omega arith;
        within = f.within;
        looked = capped_next looks looks' U.looks 1 k.looked more;
        counted = k.counted;
        loads = load_counted U.rd_off V.rd_off r f.load ∙ ap (λ (x : ℕ). x + 1) k.loads;
        last = load_found U.rd_off V.rd_off r f.load;
      }

-- how many bytes wait, as the lower end finds it
pub look_found : {d e : DownView} {size at count : ℕ} (k : IsDown d size at count) (n wait : ℕ) → FoundPublished d n e → IsAhead at n size wait → wait + length d.got ≡ e.found
look_found {d = D} {e = E} {size = size} {at = at} k n wait f far =
    let h = k.in_order in
    let g = k.sized in
    let le = f.later in
    let up = f.fits in
    let there : n ≡ E.found % size = f.read ∙ ap (λ (x : ℕ). E.found % x) k.sized in
    ahead_is (length D.got) E.found size wait (omega arith) (omega arith) (subst (λ (x : ℕ × ℕ). IsAhead x.0 x.1 size wait) (λ i. (k.place i, there i)) far)

module _ (D E : DownView) (size at count : ℕ) (k : IsDown D size at count) where
  pub took_keeps : (bs : List ℕ) (at' count' : ℕ) → length D.got + length bs ≤ D.found → E ≡ took_bytes D bs → at + length bs ≤ size → IsNext at (length bs) size at' → count' ≡ min (count + length bs) 18446744073709551615 → IsDown E size at' count'
  took_keeps bs at' count' less now flat next more =
      let n : ℕ = length D.got in
      let longer : length (D.got ++ bs) ≡ n + length bs = length-append D.got bs in
      let big = k.big.0 in
      subst (λ (x : DownView). IsDown x size at' count') (sym now) record {
        big = k.big;
        sized = k.sized;
        place = next_is at n (length bs) size at' (omega arith) k.place flat next (omega arith) ∙ ap (λ (x : ℕ). x % size) (sym longer);
        in_order = omega arith;
        counted = capped_next count count' n (length bs) k.counted more ∙ ap capped (sym longer);
      }

-- how many bytes are taken of a word
pub next_long : (d : DownView) (count w : ℕ) → length d.got % d.size % 8 + count ≤ 8 → length (next_bytes d count w) ≡ count
next_long d count w inside = length-take-le count (drop (length d.got % d.size % 8) (lanes w)) (omega (arith, length-drop (length d.got % d.size % 8) (lanes w), lanes_long w))

-- how many bytes are left
pub left_is : (u : UpView) (d : DownView) (z from to n : ℕ) → IsWhole u d → u.size ≡ z → from ≡ length d.got % z → to ≡ length u.sent % z → IsAhead from to z n → n + length d.got ≡ length u.sent
left_is u d z from to n w sized is is' far =
    let long : length u.sent ≡ length d.got + length w.1.0 = ap length w.1.1 ∙ length-append d.got w.1.0 in
    let lt = w.2 in
    ahead_is (length d.got) (length u.sent) z n (omega arith) (omega arith) (subst (λ (x : ℕ × ℕ). IsAhead x.0 x.1 z n) (λ i. (is i, is' i)) far)

-- the bytes that the joined seat finds in one word, at the number j
pub rest_bytes : (u : UpView) (d : DownView) (z j at count n : ℕ) → u.size ≡ z → at ≡ j % z → length d.got ≤ j → j + count ≤ length u.sent → at % 8 + count ≤ 8 → at + count ≤ z
    → ((i b : ℕ) → length d.got ≤ i → get_elem? u.sent i ≡ some b → i % u.size / 8 + 2 ≡ at / 8 + 2 → lane n (i % u.size % 8) ≡ b)
    → (t : ℕ) → t < count → get_elem? u.sent (j + t) ≡ some (slice_index (take count (drop (at % 8) (lanes n))) t)
rest_bytes u d z j at count n sized is from to inside flat tells t h =
    let i : ℕ = j + t in
    let q : ℕ = i % z in
    let item = front_at u.sent [] i (omega arith) in
    let here : q ≡ at + t = straight j t z (omega arith) ∙ ap (λ (x : ℕ). x + t) (sym is) in
    let split : at / 8 * 8 + at % 8 ≡ at = div-add-mod' at 8 in
    let word : q / 8 ≡ at / 8 = word_of q (at / 8) (at % 8 + t) (omega arith) (omega arith) in
    let lane_is : q % 8 ≡ at % 8 + t = lane_of q (at / 8) (at % 8 + t) (omega arith) (omega arith) in
    let told : lane n (i % u.size % 8) ≡ item.0 = tells i item.0 (omega arith) item.1 (ap (λ (x : ℕ). i % x / 8 + 2) sized ∙ ap (λ (x : ℕ). x + 2) word) in
    let read : slice_index (take count (drop (at % 8) (lanes n))) t ≡ lane n (at % 8 + t) = get_or-take count (drop (at % 8) (lanes n)) t 0 h ∙ get_or-drop (at % 8) (lanes n) t 0 in
    item.1 ∙ ap some (sym told ∙ ap (λ (x : ℕ). lane n (i % x % 8)) sized ∙ ap (lane n) lane_is ∙ sym read)

-- nothing is left
pub whole_front : (ys xs : List ℕ) → StartsWith ys xs → length ys ≡ length xs → ys ≡ xs
whole_front ys xs f same = by_rest f.0 f.1
  where
    by_rest : (rest : List ℕ) → ys ≡ xs ++ rest → ys ≡ xs
    by_rest [] e = e ∙ append-nil xs
    by_rest (c ∷ cs) e = absurd (let h : length ys ≡ length xs + length (c ∷ cs) = ap length e ∙ length-append xs (c ∷ cs) in omega arith)
