-- What a framer stands for, as bytes are taken.
use Rattle.std.proofs.Common.{◌≡◌, ◌≢◌, inl, inr, ℕ, zero, suc, ◌+◌, ◌-◌, ◌<◌, ◌≤◌, List, [], ◌∷◌, ◌++◌, length, get_or, take, drop, replicate, Bool, true, false, ◌||◌, nat_lt, cond, if◌then◌else◌, Option, Some, None, option_to_list, refl, sym, ◌∙◌, ap, subst, arith, append_assoc, length-append}
use Rattle.std.proofs.lemmas.Bool.{cases_Bool, cases_eq, cases_lt, lt-ltb, lt-leb, le-leb}
use Rattle.std.proofs.lemmas.List.{append-nil, take_more, length-replicate, length-take-le, take_all, take-append-drop, nil_from_length, take-take, drop-take}
use Rattle.defmt_framing.specs.Cut.{has_zero, tail, since_zero}
use Rattle.defmt_framing.specs.Told.{Tells, told_size, of_piece, of_front, of_tail, cut_off, events, begun}
use Rattle.defmt_framing.specs.Framing.{Framing, Stands, Hears, GoesOn}
use Rattle.defmt_framing.specs.Calls.{Calls, no_call, one_call, HeardAs, Heard}
use Rattle.defmt_framing.proofs.Cutting.{has_zero-mid, has_zero-none, tail-mid, tail-last, last_zero}
use Rattle.defmt_framing.proofs.Telling.{told_piece, closing, begun-run, begun-zero, events-is, ending}

has_zero-one : (b : ℕ) → b ≢ 0 → has_zero (b ∷ []) ≡ false
unfolding has_zero
has_zero-one zero not = absurd (not refl)
has_zero-one (suc b) not = refl

pub run_more : (bytes : List ℕ) (i : ℕ) → i < length bytes → has_zero (take i bytes) ≡ false → get_or bytes i 0 ≢ 0 → has_zero (take (i + 1) bytes) ≡ false
run_more bytes i within none not = ap has_zero (take_more bytes i 0 within) ∙ has_zero-none (take i bytes) (get_or bytes i 0 ∷ []) none ∙ has_zero-one (get_or bytes i 0) not

pub none_before : (bytes : List ℕ) (n : ℕ) → n ≤ length bytes → ((k : ℕ) → k < n → get_or bytes k 0 ≢ 0) → has_zero (take n bytes) ≡ false
unfolding has_zero
none_before bytes zero within non = refl
none_before bytes (suc n) within non =
    ap (λ (k : ℕ). has_zero (take k bytes)) (let e : suc n ≡ n + 1 = omega arith in e)
    ∙ run_more bytes n (omega arith) (none_before bytes n (omega arith) (λ k h. non k (omega arith))) (non n (omega arith))

-- the bytes that no zero ended

since-some : (h : List ℕ) → has_zero h ≡ true → since_zero h ≡ tail h
since-some h some = ap (λ (b : Bool). cond b (tail h) h) some

since-none : (h : List ℕ) → has_zero h ≡ false → since_zero h ≡ h
since-none h none = ap (λ (b : Bool). cond b (tail h) h) none

has_zero-run : (h run : List ℕ) → has_zero run ≡ false → has_zero (h ++ run) ≡ has_zero h
unfolding has_zero
has_zero-run [] run none = none
has_zero-run (zero ∷ h) run none = refl
has_zero-run (suc x ∷ h) run none = has_zero-run h run none

tail-run : (h run : List ℕ) → has_zero h ≡ true → has_zero run ≡ false → tail (h ++ run) ≡ tail h ++ run
tail-run h run some none =
    let l = last_zero h some in
    ap tail (ap (λ (x : List ℕ). x ++ run) l.is ∙ append_assoc l.before (0 ∷ tail h) run) ∙ tail-mid l.before (tail h ++ run)
    ∙ tail-last (tail h ++ run) (has_zero-none (tail h) run l.none ∙ none)

since-run : (h run : List ℕ) → has_zero run ≡ false → since_zero (h ++ run) ≡ since_zero h ++ run
since-run h run none = elim (cases_Bool (has_zero h)) [
  | inl some ↦ since-some (h ++ run) (has_zero-run h run none ∙ some) ∙ tail-run h run some none ∙ ap (λ (l : List ℕ). l ++ run) (sym (since-some h some))
  | inr not ↦ since-none (h ++ run) (has_zero-run h run none ∙ not) ∙ ap (λ (l : List ℕ). l ++ run) (sym (since-none h not))
]

tail-zero : (h : List ℕ) → tail (h ++ 0 ∷ []) ≡ []
unfolding has_zero
tail-zero h = tail-mid h [] ∙ tail-last [] refl

since-zero : (h : List ℕ) → since_zero (h ++ 0 ∷ []) ≡ []
since-zero h = since-some (h ++ 0 ∷ []) (has_zero-mid h []) ∙ tail-zero h

module _ {E : Type 0} (t : Tells E) where
  nothing_closed : (h : List ℕ) → since_zero h ≡ [] → closing t h ≡ []
  nothing_closed h none = elim (cases_Bool (has_zero h)) [
    | inl some ↦ ap (λ (b : Bool). cond b (told_piece t (tail h)) (cut_off (of_front t) h)) some ∙ ap (told_piece t) (sym (since-some h some) ∙ none)
    | inr not ↦ ap (λ (b : Bool). cond b (told_piece t (tail h)) (cut_off (of_front t) h)) not ∙ ap (cut_off (of_front t)) (sym (since-none h not) ∙ none)
  ]

  zeros_same : (z : ℕ) (h : List ℕ) → since_zero h ≡ [] → begun t (h ++ replicate z 0) ≡ begun t h
  zeros_same zero h none = ap (begun t) (append-nil h)
  zeros_same (suc z) h none =
      ap (begun t) (sym (append_assoc h (0 ∷ []) (replicate z 0))) ∙ zeros_same z (h ++ 0 ∷ []) (since-zero h) ∙ begun-zero t h
      ∙ ap (λ (l : List E). begun t h ++ l) (nothing_closed h none) ∙ append-nil (begun t h)

zeros_since : (z : ℕ) (h : List ℕ) → since_zero h ≡ [] → since_zero (h ++ replicate z 0) ≡ []
zeros_since zero h none = ap since_zero (append-nil h) ∙ none
zeros_since (suc z) h none = ap since_zero (sym (append_assoc h (0 ∷ []) (replicate z 0))) ∙ zeros_since z (h ++ 0 ∷ []) (since-zero h)

zeros_some : (z : ℕ) (h : List ℕ) → has_zero (h ++ replicate z 0) ≡ (has_zero h || nat_lt 0 z)
zeros_some zero h = ap has_zero (append-nil h) ∙ sym (or_false (has_zero h)) where
  or_false : (b : Bool) → (b || false) ≡ b
  or_false true = refl
  or_false false = refl
zeros_some (suc z) h = has_zero-mid h (replicate z 0) ∙ sym (ap (λ (b : Bool). has_zero h || b) (lt-ltb 0 (suc z) (omega arith)) ∙ or_true (has_zero h)) where
  or_true : (b : Bool) → (b || true) ≡ true
  or_true true = refl
  or_true false = refl

-- what is kept

abbrev pub kept_of : ℕ → List ℕ → List ℕ
kept_of most h = if has_zero h then take most (tail h) else []

kept_more : (most : ℕ) (xs run : List ℕ) → take most xs ++ take (most - length (take most xs)) run ≡ take most (xs ++ run)
kept_more zero xs run = refl
kept_more (suc most) [] run = ap (λ (n : ℕ). take n run) (let e : suc most - 0 ≡ suc most = omega arith in e)
kept_more (suc most) (x ∷ xs) run = ap (λ (l : List ℕ). x ∷ l) (ap (λ (n : ℕ). take most xs ++ take n run) (let e : suc most - suc (length (take most xs)) ≡ most - length (take most xs) = omega arith in e) ∙ kept_more most xs run)

kept-some : (most : ℕ) (h : List ℕ) → has_zero h ≡ true → kept_of most h ≡ take most (tail h)
kept-some most h some = ap (λ (b : Bool). cond b (take most (tail h)) []) some

kept-no : (most : ℕ) (h : List ℕ) → has_zero h ≡ false → kept_of most h ≡ []
kept-no most h none = ap (λ (b : Bool). cond b (take most (tail h)) []) none

kept_none : (most : ℕ) (h : List ℕ) → since_zero h ≡ [] → kept_of most h ≡ []
kept_none most h none = elim (cases_Bool (has_zero h)) [
  | inl some ↦ kept-some most h some ∙ ap (take most) (sym (since-some h some) ∙ none) ∙ take_all most [] (omega arith)
  | inr not ↦ kept-no most h not
]

kept_run : (most : ℕ) (h run : List ℕ) → has_zero h ≡ true → has_zero run ≡ false → kept_of most (h ++ run) ≡ kept_of most h ++ take (most - length (kept_of most h)) run
kept_run most h run some none =
    kept-some most (h ++ run) (has_zero-run h run none ∙ some) ∙ ap (take most) (tail-run h run some none) ∙ sym (kept_more most (tail h) run)
    ∙ ap (λ (l : List ℕ). l ++ take (most - length l) run) (sym (kept-some most h some))

-- zeros that nothing is open in front of

record Skipped {E : Type 0} (t : Tells E) (h : List ℕ) (z : ℕ) : Type 0 where
  same : begun t (h ++ replicate z 0) ≡ begun t h
  since : since_zero (h ++ replicate z 0) ≡ since_zero h
  kept : (most : ℕ) → kept_of most (h ++ replicate z 0) ≡ kept_of most h

skipped : {E : Type 0} (t : Tells E) (h : List ℕ) (z : ℕ) → (length (since_zero h) ≢ 0 → z ≡ 0) → Skipped t h z
skipped t h z only = elim (cases_eq (length (since_zero h)) 0) [
  | inl none ↦
      let e = nil_from_length (since_zero h) none in
      record {
        same = zeros_same t z h e;
        since = zeros_since z h e ∙ sym e;
        kept = λ most. kept_none most (h ++ replicate z 0) (zeros_since z h e) ∙ sym (kept_none most h e);
      }
  | inr some ↦
      let e : h ++ replicate z 0 ≡ h = ap (λ (n : ℕ). h ++ replicate n 0) (only some) ∙ append-nil h in
      record { same = ap (begun t) e; since = ap since_zero e; kept = λ most. ap (kept_of most) e }
]

-- the two ways of a call

module _ {E : Type 0} (t : Tells E) where
  pub goes_on : (before after : Framing) (h run : List ℕ) (z : ℕ) → Stands before h → (before.since ≢ 0 → z ≡ 0) → has_zero run ≡ false
      → GoesOn before after z run → Hears t after h (replicate z 0 ++ run) None
  goes_on before after h run z st only none goes =
      let g = h ++ replicate z 0 in
      let sk = skipped t h z (λ open_. only (λ e. open_ (let l : length (since_zero h) ≡ 0 = omega (arith, st.since) in l))) in
      let joined : h ++ (replicate z 0 ++ run) ≡ g ++ run = sym (append_assoc h (replicate z 0) run) in
      let mark : after.zeros ≡ has_zero g = goes.zeros ∙ ap (λ (b : Bool). b || nat_lt 0 z) st.zeros ∙ sym (zeros_some z h) in
      let kept_now : after.kept ≡ kept_of 65537 (g ++ run) = elim (cases_Bool (has_zero g)) [
        | inl some ↦ goes.more (mark ∙ some) ∙ ap (λ (l : List ℕ). l ++ take (65537 - length l) run) (st.kept ∙ sym (sk.kept 65537)) ∙ sym (kept_run 65537 g run some none)
        | inr not ↦ goes.same (mark ∙ not) ∙ st.kept ∙ sym (sk.kept 65537) ∙ kept-no 65537 g not ∙ sym (kept-no 65537 (g ++ run) (has_zero-run g run none ∙ not))
      ] in
      let now : Stands after (g ++ run) = record {
        heard = omega (arith, goes.heard, st.heard, length-append g run, length-append h (replicate z 0), length-replicate {A = ℕ} z 0);
        zeros = mark ∙ sym (has_zero-run g run none);
        since = omega (arith, goes.since, st.since, ap length (since-run g run none), length-append (since_zero g) run, ap length sk.since);
        kept = kept_now;
      } in
      record {
        stands = subst (Stands after) (sym joined) now;
        tells_it = ap (begun t) joined ∙ begun-run t g run none ∙ sk.same ∙ sym (append-nil (begun t h));
        last = tt;
      }

  -- of a piece that is too long its first bytes tell that it is
  pub piece_kept : (most : ℕ) (xs : List ℕ) → most ≡ 65537 → of_piece t (take most xs) ≡ of_piece t xs
  unfolding of_piece
  piece_kept most xs is = elim (cases_lt (length xs) 65537) [
    | inl short ↦ ap (of_piece t) (take_all most xs (omega arith))
    | inr long ↦
        let size : length (take most xs) ≡ 65537 = length-take-le most xs (omega arith) ∙ is in
        ap (λ (b : Bool). cond b (t.piece (take most xs)) t.long) (lt-leb (length (take most xs)) 65536 (omega (arith, size)))
        ∙ ap (λ (b : Bool). cond b (t.piece xs) t.long) (sym (lt-leb (length xs) 65536 (omega arith)))
  ]

  pub piece_short : (xs : List ℕ) → length xs ≤ 65536 → of_piece t xs ≡ t.piece xs
  unfolding of_piece
  piece_short xs short = ap (λ (b : Bool). cond b (t.piece xs) t.long) (le-leb (length xs) 65536 short)

  pub piece_long : (xs : List ℕ) → 65536 < length xs → of_piece t xs ≡ t.long
  unfolding of_piece
  piece_long xs long = ap (λ (b : Bool). cond b (t.piece xs) t.long) (lt-leb (length xs) 65536 long)

  -- the run alone, where nothing was kept
  pub piece_alone : (kept run : List ℕ) → length kept ≡ 0 → of_piece t run ≡ of_piece t (kept ++ take (65537 - length kept) run)
  piece_alone kept run none =
      sym (ap (λ (l : List ℕ). of_piece t (l ++ take (65537 - length l) run)) (nil_from_length kept none) ∙ piece_kept (65537 - 0) run (omega arith))

  some_closed : (c : List ℕ) → 0 < length c → told_piece t c ≡ of_piece t c ∷ []
  some_closed [] some = absurd (omega arith)
  some_closed (x ∷ c) some = refl

  some_cut : (make : ℕ → E) (c : List ℕ) → 0 < length c → cut_off make c ≡ make (length c) ∷ []
  some_cut make [] some = absurd (omega arith)
  some_cut make (x ∷ c) some = refl

  front_is : (n : ℕ) → of_front t n ≡ t.cut_front (told_size n)
  unfolding of_front
  front_is n = refl

  tail_is : (n : ℕ) → of_tail t n ≡ t.cut_tail (told_size n)
  unfolding of_tail
  tail_is n = refl

  -- what a zero tells
  closed_as : (middle : Framing) (s : List ℕ) (told : E) → Stands middle s → 0 < middle.since → (middle.zeros ≡ true → told ≡ of_piece t middle.kept) → (middle.zeros ≡ false → told ≡ t.cut_front middle.since)
      → closing t s ≡ told ∷ []
  closed_as middle s told st some piece cut =
      let long : 0 < length (since_zero s) = omega (arith, st.since) in
      elim (cases_Bool (has_zero s)) [
        | inl yes_ ↦
            let open_ = since-some s yes_ in
            ap (λ (b : Bool). cond b (told_piece t (tail s)) (cut_off (of_front t) s)) yes_ ∙ some_closed (tail s) (omega (arith, ap length open_))
            ∙ ap (λ (e : E). e ∷ []) (sym (piece_kept 65537 (tail s) refl) ∙ ap (of_piece t) (sym (kept-some 65537 s yes_) ∙ sym st.kept) ∙ sym (piece (st.zeros ∙ yes_)))
        | inr none ↦
            let open_ = since-none s none in
            ap (λ (b : Bool). cond b (told_piece t (tail s)) (cut_off (of_front t) s)) none ∙ some_cut (of_front t) s (omega (arith, ap length open_))
            ∙ ap (λ (e : E). e ∷ []) (front_is (length s) ∙ ap t.cut_front (ap (λ (l : List ℕ). told_size (length l)) (sym open_) ∙ sym st.since) ∙ sym (cut (st.zeros ∙ none)))
      ]

  pub closes : (before after : Framing) (h run : List ℕ) (z : ℕ) (told : E) → Stands before h → (before.since ≢ 0 → z ≡ 0) → has_zero run ≡ false → 0 < before.since + length run
      → after.heard ≡ told_size (before.heard + (z + length run + 1)) → after.zeros ≡ true → after.since ≡ 0 → after.kept ≡ []
      → ((before.zeros || nat_lt 0 z) ≡ true → told ≡ of_piece t (before.kept ++ take (65537 - length before.kept) run))
      → ((before.zeros || nat_lt 0 z) ≡ false → told ≡ t.cut_front (told_size (before.since + length run)))
      → Hears t after h (replicate z 0 ++ (run ++ 0 ∷ [])) (Some told)
  closes before after h run z told st only none some heard zeros since kept piece cut =
      let mark = before.zeros || nat_lt 0 z in
      let middle : Framing = record {
        heard = told_size (before.heard + (z + length run));
        zeros = mark;
        since = told_size (before.since + length run);
        kept = if mark then before.kept ++ take (65537 - length before.kept) run else before.kept;
      } in
      let kept_yes : mark ≡ true → middle.kept ≡ before.kept ++ take (65537 - length before.kept) run = λ e. ap (λ (b : Bool). cond b (before.kept ++ take (65537 - length before.kept) run) before.kept) e in
      let kept_not : mark ≡ false → middle.kept ≡ before.kept = λ e. ap (λ (b : Bool). cond b (before.kept ++ take (65537 - length before.kept) run) before.kept) e in
      let m = goes_on before middle h run z st only none (record { heard = refl; zeros = refl; since = refl; more = kept_yes; same = kept_not }) in
      let s = h ++ (replicate z 0 ++ run) in
      let joined : h ++ (replicate z 0 ++ (run ++ 0 ∷ [])) ≡ s ++ 0 ∷ [] = ap (λ (l : List ℕ). h ++ l) (sym (append_assoc (replicate z 0) run (0 ∷ []))) ∙ sym (append_assoc h (replicate z 0 ++ run) (0 ∷ [])) in
      let now : Stands after (s ++ 0 ∷ []) = record {
        heard = omega (arith, heard, m.stands.heard, length-append s (0 ∷ []), st.heard);
        zeros = zeros ∙ sym (has_zero-mid s []);
        since = since ∙ ap (λ (l : List ℕ). told_size (length l)) (sym (since-zero s));
        kept = kept ∙ sym (kept_none 65537 (s ++ 0 ∷ []) (since-zero s));
      } in
      let told_now : begun t (s ++ 0 ∷ []) ≡ begun t h ++ told ∷ [] =
      begun-zero t s ∙ ap (λ (l : List E). l ++ closing t s) (m.tells_it ∙ append-nil (begun t h))
      ∙ ap (λ (l : List E). begun t h ++ l) (closed_as middle s told m.stands (omega arith) (λ e. piece e ∙ ap (of_piece t) (sym (kept_yes e))) cut) in
      record {
        stands = subst (Stands after) (sym joined) now;
        tells_it = ap (begun t) joined ∙ told_now;
        last = (replicate z 0 ++ run, sym (append_assoc (replicate z 0) run (0 ∷ [])), m.tells_it ∙ append-nil (begun t h));
      }

  -- the end of the stream

  nothing_ended : (h : List ℕ) → since_zero h ≡ [] → ending t h ≡ []
  nothing_ended h none = elim (cases_Bool (has_zero h)) [
    | inl some ↦ ap (λ (b : Bool). cond b (cut_off (of_tail t) (tail h)) (cut_off (of_front t) h)) some ∙ ap (cut_off (of_tail t)) (sym (since-some h some) ∙ none)
    | inr not ↦ ap (λ (b : Bool). cond b (cut_off (of_tail t) (tail h)) (cut_off (of_front t) h)) not ∙ ap (cut_off (of_front t)) (sym (since-none h not) ∙ none)
  ]

  pub finishes : (framer : Framing) (h : List ℕ) (told : Option E) → Stands framer h
      → (framer.zeros ≡ true → 0 < framer.since → told ≡ Some (t.cut_tail framer.since)) → (framer.zeros ≡ false → 0 < framer.since → told ≡ Some (t.cut_front framer.since)) → (framer.since ≡ 0 → told ≡ None)
      → events t h ≡ begun t h ++ option_to_list told
  finishes framer h told st tail_ front_ none =
      let size : framer.since ≡ told_size (length (since_zero h)) = st.since in
      events-is t h ∙ ap (λ (l : List E). begun t h ++ l) (elim (cases_eq framer.since 0) [
        | inl zero_ ↦
            let e : since_zero h ≡ [] = nil_from_length (since_zero h) (omega arith) in
            nothing_ended h e ∙ ap (λ (o : Option E). option_to_list o) (sym (none zero_))
        | inr more ↦
            let long : 0 < length (since_zero h) = omega arith in
            elim (cases_Bool (has_zero h)) [
              | inl yes_ ↦
                  let open_ = since-some h yes_ in
                  ap (λ (b : Bool). cond b (cut_off (of_tail t) (tail h)) (cut_off (of_front t) h)) yes_ ∙ some_cut (of_tail t) (tail h) (omega (arith, ap length open_))
                  ∙ ap (λ (e : E). e ∷ []) (tail_is (length (tail h)) ∙ ap t.cut_tail (ap (λ (l : List ℕ). told_size (length l)) (sym open_) ∙ sym size))
                  ∙ ap (λ (o : Option E). option_to_list o) (sym (tail_ (st.zeros ∙ yes_) (omega arith)))
              | inr no_ ↦
                  let open_ = since-none h no_ in
                  ap (λ (b : Bool). cond b (cut_off (of_tail t) (tail h)) (cut_off (of_front t) h)) no_ ∙ some_cut (of_front t) h (omega (arith, ap length open_))
                  ∙ ap (λ (e : E). e ∷ []) (front_is (length h) ∙ ap t.cut_front (ap (λ (l : List ℕ). told_size (length l)) (sym open_) ∙ sym size))
                  ∙ ap (λ (o : Option E). option_to_list o) (sym (front_ (st.zeros ∙ no_) (omega arith)))
            ]
      ])

  -- any cutting

  pub heard_one : (after : Framing) (h taken : List ℕ) (told : Option E) → Hears t after h taken told → HeardAs t after h taken (option_to_list told)
  heard_one after h taken told x = record { stands = x.stands; tells_all = x.tells_it }

  pub heard_none : (framer : Framing) (h : List ℕ) → Stands framer h → HeardAs t framer h [] []
  heard_none framer h st = record {
    stands = subst (Stands framer) (sym (append-nil h)) st;
    tells_all = ap (begun t) (append-nil h) ∙ sym (append-nil (begun t h));
  }

  pub heard_both : (middle after : Framing) (h taken rest : List ℕ) (told more : List E) → HeardAs t middle h taken told → HeardAs t after (h ++ taken) rest more
      → HeardAs t after h (taken ++ rest) (told ++ more)
  heard_both middle after h taken rest told more x y = record {
    stands = subst (Stands after) (append_assoc h taken rest) y.stands;
    tells_all = ap (begun t) (sym (append_assoc h taken rest)) ∙ y.tells_all ∙ ap (λ (l : List E). l ++ more) x.tells_all ∙ append_assoc (begun t h) told more;
  }

  pub heard_calls : (before after : Framing) (taken : List ℕ) (told : List E) → Calls t before after taken told → (h : List ℕ) → Stands before h → HeardAs t after h taken told
  heard_calls _ _ _ _ (no_call framer) h st = heard_none framer h st
  heard_calls _ _ _ _ (one_call before middle after taken rest told more one calls) h st =
      let x = heard_one middle h taken told (one h st) in
      heard_both middle after h taken rest (option_to_list told) more x (heard_calls middle after rest more calls (h ++ taken) x.stands)

  pub heard_start : (framer : Framing) (h : List ℕ) (out : List E) → Stands framer h → Heard t framer h [] out out
  heard_start framer h out st = record { told = []; as_told = heard_none framer h st; appended = sym (append-nil out) }

  pub heard_more : (middle after : Framing) (h taken rest : List ℕ) (told : Option E) (first_out out out_after : List E) → Heard t middle h taken first_out out
      → ((stream : List ℕ) → Stands middle stream → Hears t after stream rest told) → out_after ≡ out ++ option_to_list told → Heard t after h (taken ++ rest) first_out out_after
  heard_more middle after h taken rest told first_out out out_after x one is = record {
    told = x.told ++ option_to_list told;
    as_told = heard_both middle after h taken rest x.told (option_to_list told) x.as_told (heard_one after (h ++ taken) rest told (one (h ++ taken) x.as_told.stands));
    appended = is ∙ ap (λ (l : List E). l ++ option_to_list told) x.appended ∙ append_assoc first_out x.told (option_to_list told);
  }

  -- what is heard so far of the bytes
  pub record HearsSo (before after : Framing) (bytes rest : List ℕ) (first_out out : List E) : Type 0 where
    pub taken : List ℕ
    pub bytes_are : bytes ≡ taken ++ rest
    pub heard : (stream : List ℕ) → Stands before stream → Heard t after stream taken first_out out

  pub hears_start : (framer : Framing) (bytes : List ℕ) (out : List E) → HearsSo framer framer bytes bytes out out
  hears_start framer bytes out = record { taken = []; bytes_are = refl; heard = λ stream st. heard_start framer stream out st }

  pub hears_more : (before middle after : Framing) (bytes rest behind : List ℕ) (n : ℕ) (told : Option E) (first_out out out_after : List E) → HearsSo before middle bytes rest first_out out
      → ((stream : List ℕ) → Stands middle stream → Hears t after stream (take n rest) told) → behind ≡ drop n rest → out_after ≡ out ++ option_to_list told → HearsSo before after bytes behind first_out out_after
  hears_more before middle after bytes rest behind n told first_out out out_after x one behind_is is = record {
    taken = x.taken ++ take n rest;
    bytes_are = x.bytes_are ∙ ap (λ (l : List ℕ). x.taken ++ l) (sym (take-append-drop n rest)) ∙ sym (append_assoc x.taken (take n rest) (drop n rest)) ∙ ap (λ (l : List ℕ). (x.taken ++ take n rest) ++ l) (sym behind_is);
    heard = λ stream st. heard_more middle after stream x.taken (take n rest) told first_out out out_after (x.heard stream st) one is;
  }

  pub hears_all : (before after : Framing) (bytes rest : List ℕ) (first_out out : List E) → HearsSo before after bytes rest first_out out → length rest ≡ 0
      → (stream : List ℕ) → Stands before stream → Heard t after stream bytes first_out out
  hears_all before after bytes rest first_out out x none stream st =
      let e : x.taken ≡ bytes = sym (append-nil x.taken) ∙ ap (λ (l : List ℕ). x.taken ++ l) (sym (nil_from_length rest none)) ∙ sym x.bytes_are in
      subst (λ (l : List ℕ). Heard t after stream l first_out out) e (x.heard stream st)

pub stands_new : (kept : List ℕ) → kept ≡ [] → Stands (record { heard = 0; zeros = false; since = 0; kept = kept }) []
unfolding has_zero
stands_new kept none = record { heard = refl; zeros = refl; since = refl; kept = none }

-- the parts of what was taken

pub all_parts : (bytes rest run behind : List ℕ) (z n : ℕ) → take z bytes ≡ replicate z 0 → rest ≡ drop z bytes → run ≡ take n rest → behind ≡ drop n rest → length behind ≡ 0
    → replicate z 0 ++ run ≡ take (length bytes) bytes
all_parts bytes rest run behind z n zeros rest_is run_is behind_is none =
    let whole : take n rest ≡ rest = sym (append-nil (take n rest)) ∙ ap (λ (l : List ℕ). take n rest ++ l) (sym (sym behind_is ∙ nil_from_length behind none)) ∙ take-append-drop n rest in
    ap (λ (l : List ℕ). l ++ run) (sym zeros) ∙ ap (λ (l : List ℕ). take z bytes ++ l) (run_is ∙ whole ∙ rest_is) ∙ take-append-drop z bytes ∙ sym (take_all (length bytes) bytes (omega arith))

pub some_parts : (bytes rest run : List ℕ) (z n : ℕ) → z ≤ length bytes → take z bytes ≡ replicate z 0 → rest ≡ drop z bytes → run ≡ take n rest → n < length rest → get_or rest n 0 ≡ 0
    → replicate z 0 ++ (run ++ 0 ∷ []) ≡ take (z + n + 1) bytes
some_parts bytes rest run z n within zeros rest_is run_is more zero_ =
    let one : run ++ 0 ∷ [] ≡ take (n + 1) rest = ap (λ (l : List ℕ). l ++ 0 ∷ []) run_is ∙ ap (λ (b : ℕ). take n rest ++ b ∷ []) (sym zero_) ∙ sym (take_more rest n 0 more) in
    let split_ : take (z + n + 1) bytes ≡ take z bytes ++ take (n + 1) (drop z bytes) =
    ap (λ (k : ℕ). take k bytes) (let e : z + n + 1 ≡ z + (n + 1) = omega arith in e) ∙ sym (take-append-drop z (take (z + (n + 1)) bytes))
    ∙ ap (λ (l : List ℕ). l ++ drop z (take (z + (n + 1)) bytes)) (take-take z (z + (n + 1)) bytes (omega arith))
    ∙ ap (λ (l : List ℕ). take z bytes ++ l) (drop-take z (n + 1) bytes) in
    ap (λ (l : List ℕ). l ++ (run ++ 0 ∷ [])) (sym zeros) ∙ ap (λ (l : List ℕ). take z bytes ++ l) (one ∙ ap (take (n + 1)) rest_is) ∙ sym split_
