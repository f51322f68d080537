-- Laws of what is told of a stream.
use Rattle.std.proofs.Common.{◌≡◌, inl, inr, ℕ, List, [], ◌∷◌, ◌++◌, map, Bool, true, false, cond, if◌then◌else◌, refl, sym, ◌∙◌, ap, append_assoc}
use Rattle.std.proofs.lemmas.Bool.{cases_Bool}
use Rattle.std.proofs.lemmas.List.{append-nil, map-append}
use Rattle.defmt_framing.specs.Cut.{has_zero, front, tail, nonempty, pieces}
use Rattle.defmt_framing.specs.Told.{Tells, of_piece, of_front, of_tail, cut_off, events, begun}
use Rattle.defmt_framing.proofs.Cutting.{has_zero-mid, front-mid, pieces-mid, tail-mid, front-none, front-end, gaps-none, gaps-end, tail-none, has_zero-none, gaps-one, gaps-open, last_zero}

-- what is told of a piece that may be empty
abbrev pub told_piece : {E : Type 0} → Tells E → List ℕ → List E
told_piece t [] = []
told_piece t (b ∷ bytes) = (of_piece t) (b ∷ bytes) ∷ []

-- what a zero behind the stream tells
abbrev pub closing : {E : Type 0} → Tells E → List ℕ → List E
closing t h = if has_zero h then told_piece t (tail h) else cut_off (of_front t) h

module _ {E : Type 0} (t : Tells E) where
  begun-some : (h : List ℕ) → has_zero h ≡ true → begun t h ≡ cut_off (of_front t) (front h) ++ map (of_piece t) (pieces h)
  unfolding begun
  begun-some h some = ap (λ (b : Bool). cond b (cut_off (of_front t) (front h) ++ map (of_piece t) (pieces h)) []) some

  pub begun-none : (h : List ℕ) → has_zero h ≡ false → begun t h ≡ []
  unfolding begun
  begun-none h none = ap (λ (b : Bool). cond b (cut_off (of_front t) (front h) ++ map (of_piece t) (pieces h)) []) none

  pieces-told : (a b : List ℕ) → map (of_piece t) (pieces (a ++ 0 ∷ b)) ≡ map (of_piece t) (pieces (a ++ 0 ∷ [])) ++ map (of_piece t) (pieces (0 ∷ b))
  pieces-told a b = ap (map (of_piece t)) (pieces-mid a b) ∙ map-append (of_piece t) (pieces (a ++ 0 ∷ [])) (pieces (0 ∷ b))

  from_zero : (b : List ℕ) → begun t (0 ∷ b) ≡ map (of_piece t) (pieces (0 ∷ b))
  unfolding has_zero front
  from_zero b = begun-some (0 ∷ b) refl

  -- a stream can be cut at each of its zeros
  pub begun-mid : (a b : List ℕ) → begun t (a ++ 0 ∷ b) ≡ begun t (a ++ 0 ∷ []) ++ begun t (0 ∷ b)
  begun-mid a b =
      begun-some (a ++ 0 ∷ b) (has_zero-mid a b) ∙ ap (λ (l : List ℕ). cut_off (of_front t) l ++ map (of_piece t) (pieces (a ++ 0 ∷ b))) (front-mid a b)
      ∙ ap (λ (l : List E). cut_off (of_front t) (front (a ++ 0 ∷ [])) ++ l) (pieces-told a b)
      ∙ sym (append_assoc (cut_off (of_front t) (front (a ++ 0 ∷ []))) (map (of_piece t) (pieces (a ++ 0 ∷ []))) (map (of_piece t) (pieces (0 ∷ b))))
      ∙ ap (λ (l : List E). l ++ map (of_piece t) (pieces (0 ∷ b))) (sym (begun-some (a ++ 0 ∷ []) (has_zero-mid a [])))
      ∙ ap (λ (l : List E). begun t (a ++ 0 ∷ []) ++ l) (sym (from_zero b))

  -- what is told beyond those begun
  abbrev pub ending : List ℕ → List E
  ending h = if has_zero h then cut_off (of_tail t) (tail h) else cut_off (of_front t) h

  nothing : (h : List ℕ) → has_zero h ≡ false → cut_off (of_front t) h ++ (map (of_piece t) (nonempty []) ++ cut_off (of_tail t) (tail h)) ≡ [] ++ cut_off (of_front t) h
  unfolding nonempty
  nothing h none = ap (λ (l : List ℕ). cut_off (of_front t) h ++ cut_off (of_tail t) l) (tail-none h none) ∙ append-nil (cut_off (of_front t) h)

  pub events-is : (h : List ℕ) → events t h ≡ begun t h ++ ending h
  unfolding events
  events-is h = elim (cases_Bool (has_zero h)) [
    | inl some ↦
        sym (append_assoc (cut_off (of_front t) (front h)) (map (of_piece t) (pieces h)) (cut_off (of_tail t) (tail h)))
        ∙ ap (λ (l : List E). l ++ cut_off (of_tail t) (tail h)) (sym (begun-some h some))
        ∙ ap (λ (b : Bool). begun t h ++ cond b (cut_off (of_tail t) (tail h)) (cut_off (of_front t) h)) (sym some)
    | inr none ↦
        ap (λ (l : List ℕ). cut_off (of_front t) l ++ (map (of_piece t) (pieces h) ++ cut_off (of_tail t) (tail h))) (front-none h none)
        ∙ ap (λ (l : List (List ℕ)). cut_off (of_front t) h ++ (map (of_piece t) (nonempty l) ++ cut_off (of_tail t) (tail h))) (gaps-none h none)
        ∙ nothing h none
        ∙ ap (λ (l : List E). l ++ cut_off (of_front t) h) (sym (begun-none h none))
        ∙ ap (λ (b : Bool). begun t h ++ cond b (cut_off (of_tail t) (tail h)) (cut_off (of_front t) h)) (sym none)
  ]

  -- one piece

  told-one : (c : List ℕ) → map (of_piece t) (nonempty (c ∷ [])) ≡ told_piece t c
  unfolding nonempty
  told-one [] = refl
  told-one (b ∷ c) = refl

  pub begun-piece : (c : List ℕ) → has_zero c ≡ false → begun t (0 ∷ (c ++ 0 ∷ [])) ≡ told_piece t c
  begun-piece c none = from_zero (c ++ 0 ∷ []) ∙ ap (λ (l : List (List ℕ)). map (of_piece t) (nonempty l)) (gaps-one c none) ∙ told-one c

  none-told : map (of_piece t) (nonempty []) ≡ []
  unfolding nonempty
  none-told = refl

  pub begun-open : (c : List ℕ) → has_zero c ≡ false → begun t (0 ∷ c) ≡ []
  begun-open c none = from_zero c ∙ ap (λ (l : List (List ℕ)). map (of_piece t) (nonempty l)) (gaps-open c none) ∙ none-told

  pub begun-front : (c : List ℕ) → has_zero c ≡ false → begun t (c ++ 0 ∷ []) ≡ cut_off (of_front t) c
  begun-front c none =
      begun-some (c ++ 0 ∷ []) (has_zero-mid c []) ∙ ap (λ (l : List ℕ). cut_off (of_front t) l ++ map (of_piece t) (pieces (c ++ 0 ∷ []))) (front-end c [] none)
      ∙ ap (λ (l : List (List ℕ)). cut_off (of_front t) c ++ map (of_piece t) (nonempty l)) (gaps-end c none) ∙ ap (λ (l : List E). cut_off (of_front t) c ++ l) none-told ∙ append-nil (cut_off (of_front t) c)

  -- one byte and one run of bytes more

  pub begun-run : (h run : List ℕ) → has_zero run ≡ false → begun t (h ++ run) ≡ begun t h
  begun-run h run none = elim (cases_Bool (has_zero h)) [
    | inl some ↦
        let l = last_zero h some in
        let whole : h ++ run ≡ l.before ++ 0 ∷ (tail h ++ run) = ap (λ (x : List ℕ). x ++ run) l.is ∙ append_assoc l.before (0 ∷ tail h) run in
        ap (begun t) whole ∙ begun-mid l.before (tail h ++ run)
        ∙ ap (λ (x : List E). begun t (l.before ++ 0 ∷ []) ++ x) (begun-open (tail h ++ run) (has_zero-none (tail h) run l.none ∙ none) ∙ sym (begun-open (tail h) l.none))
        ∙ sym (begun-mid l.before (tail h)) ∙ ap (begun t) (sym l.is)
    | inr not ↦ begun-none (h ++ run) (has_zero-none h run not ∙ none) ∙ sym (begun-none h not)
  ]

  closing-some : (h : List ℕ) → has_zero h ≡ true → closing t h ≡ told_piece t (tail h)
  closing-some h some = ap (λ (b : Bool). cond b (told_piece t (tail h)) (cut_off (of_front t) h)) some

  closing-none : (h : List ℕ) → has_zero h ≡ false → closing t h ≡ cut_off (of_front t) h
  closing-none h none = ap (λ (b : Bool). cond b (told_piece t (tail h)) (cut_off (of_front t) h)) none

  pub begun-zero : (h : List ℕ) → begun t (h ++ 0 ∷ []) ≡ begun t h ++ closing t h
  begun-zero h = elim (cases_Bool (has_zero h)) [
    | inl some ↦
        let l = last_zero h some in
        let whole : h ++ 0 ∷ [] ≡ l.before ++ 0 ∷ (tail h ++ 0 ∷ []) = ap (λ (x : List ℕ). x ++ 0 ∷ []) l.is ∙ append_assoc l.before (0 ∷ tail h) (0 ∷ []) in
        let same : begun t h ≡ begun t (l.before ++ 0 ∷ []) = ap (begun t) l.is ∙ begun-mid l.before (tail h) ∙ ap (λ (x : List E). begun t (l.before ++ 0 ∷ []) ++ x) (begun-open (tail h) l.none) ∙ append-nil (begun t (l.before ++ 0 ∷ [])) in
        ap (begun t) whole ∙ begun-mid l.before (tail h ++ 0 ∷ [])
        ∙ ap (λ (x : List E). begun t (l.before ++ 0 ∷ []) ++ x) (begun-piece (tail h) l.none ∙ sym (closing-some h some))
        ∙ ap (λ (x : List E). x ++ closing t h) (sym same)
    | inr not ↦ begun-front h not ∙ sym (closing-none h not) ∙ ap (λ (x : List E). x ++ closing t h) (sym (begun-none h not))
  ]

  -- cutting the whole at a zero

  ending-mid : (a b : List ℕ) → ending (a ++ 0 ∷ b) ≡ ending (0 ∷ b)
  unfolding has_zero
  ending-mid a b = ap (λ (x : Bool). cond x (cut_off (of_tail t) (tail (a ++ 0 ∷ b))) (cut_off (of_front t) (a ++ 0 ∷ b))) (has_zero-mid a b) ∙ ap (cut_off (of_tail t)) (tail-mid a b)

  pub events-mid : (a b : List ℕ) → events t (a ++ 0 ∷ b) ≡ begun t (a ++ 0 ∷ []) ++ events t (0 ∷ b)
  events-mid a b =
      events-is (a ++ 0 ∷ b) ∙ ap (λ (l : List E). l ++ ending (a ++ 0 ∷ b)) (begun-mid a b) ∙ ap (λ (l : List E). (begun t (a ++ 0 ∷ []) ++ begun t (0 ∷ b)) ++ l) (ending-mid a b)
      ∙ append_assoc (begun t (a ++ 0 ∷ [])) (begun t (0 ∷ b)) (ending (0 ∷ b)) ∙ ap (λ (l : List E). begun t (a ++ 0 ∷ []) ++ l) (sym (events-is (0 ∷ b)))

  no-ending : (a : List ℕ) → ending (a ++ 0 ∷ []) ≡ []
  unfolding has_zero tail
  no-ending a = ending-mid a []

  pub events-closed : (a : List ℕ) → events t (a ++ 0 ∷ []) ≡ begun t (a ++ 0 ∷ [])
  events-closed a = events-is (a ++ 0 ∷ []) ∙ ap (λ (l : List E). begun t (a ++ 0 ∷ []) ++ l) (no-ending a) ∙ append-nil (begun t (a ++ 0 ∷ []))

  -- the intact frame
  pub intact : (p c q : List ℕ) → has_zero c ≡ false → events t (p ++ (0 ∷ (c ++ (0 ∷ q)))) ≡ events t (p ++ 0 ∷ []) ++ (told_piece t c ++ events t (0 ∷ q))
  intact p c q none =
      events-mid p (c ++ 0 ∷ q) ∙ ap (λ (l : List E). l ++ events t (0 ∷ (c ++ 0 ∷ q))) (sym (events-closed p))
      ∙ ap (λ (l : List E). events t (p ++ 0 ∷ []) ++ l) (events-mid (0 ∷ c) q ∙ ap (λ (l : List E). l ++ events t (0 ∷ q)) (begun-piece c none))
