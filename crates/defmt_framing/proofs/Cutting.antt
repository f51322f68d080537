-- Laws of the parts of a stream.
use Rattle.std.proofs.Common.{◌≡◌, inl, inr, ℕ, zero, suc, List, [], ◌∷◌, ◌++◌, Bool, true, false, cond, refl, sym, ◌∙◌, ap, append_assoc}
use Rattle.std.proofs.lemmas.Bool.{cases_Bool, true≢false}
use Rattle.defmt_framing.specs.Cut.{has_zero, front, gaps, tail, nonempty, pieces}
use Rattle.defmt_framing.specs.Places.{ended, LackZeros}

-- a stream with a zero in its middle

pub has_zero-mid : (a b : List ℕ) → has_zero (a ++ 0 ∷ b) ≡ true
unfolding has_zero
has_zero-mid [] b = refl
has_zero-mid (zero ∷ a) b = refl
has_zero-mid (suc x ∷ a) b = has_zero-mid a b

pub front-mid : (a b : List ℕ) → front (a ++ 0 ∷ b) ≡ front (a ++ 0 ∷ [])
unfolding front
front-mid [] b = refl
front-mid (zero ∷ a) b = refl
front-mid (suc x ∷ a) b = ap (λ (l : List ℕ). suc x ∷ l) (front-mid a b)

gaps-more : (bytes : List ℕ) → has_zero bytes ≡ true → gaps (0 ∷ bytes) ≡ front bytes ∷ gaps bytes
unfolding gaps
gaps-more bytes some = ap (λ (t : Bool). cond t (front bytes ∷ gaps bytes) []) some

gaps-last : (bytes : List ℕ) → has_zero bytes ≡ false → gaps (0 ∷ bytes) ≡ []
unfolding gaps
gaps-last bytes none = ap (λ (t : Bool). cond t (front bytes ∷ gaps bytes) []) none

tail-more : (bytes : List ℕ) → has_zero bytes ≡ true → tail (0 ∷ bytes) ≡ tail bytes
unfolding tail
tail-more bytes some = ap (λ (t : Bool). cond t (tail bytes) bytes) some

pub tail-last : (bytes : List ℕ) → has_zero bytes ≡ false → tail (0 ∷ bytes) ≡ bytes
unfolding tail
tail-last bytes none = ap (λ (t : Bool). cond t (tail bytes) bytes) none

pub gaps-mid : (a b : List ℕ) → gaps (a ++ 0 ∷ b) ≡ gaps (a ++ 0 ∷ []) ++ gaps (0 ∷ b)
unfolding gaps has_zero
gaps-mid [] b = refl
gaps-mid (zero ∷ a) b =
    gaps-more (a ++ 0 ∷ b) (has_zero-mid a b) ∙ ap (λ (l : List ℕ). l ∷ gaps (a ++ 0 ∷ b)) (front-mid a b)
    ∙ ap (λ (l : List (List ℕ)). front (a ++ 0 ∷ []) ∷ l) (gaps-mid a b)
    ∙ ap (λ (l : List (List ℕ)). l ++ gaps (0 ∷ b)) (sym (gaps-more (a ++ 0 ∷ []) (has_zero-mid a [])))
gaps-mid (suc x ∷ a) b = gaps-mid a b

pub tail-mid : (a b : List ℕ) → tail (a ++ 0 ∷ b) ≡ tail (0 ∷ b)
unfolding tail
tail-mid [] b = refl
tail-mid (zero ∷ a) b = tail-more (a ++ 0 ∷ b) (has_zero-mid a b) ∙ tail-mid a b
tail-mid (suc x ∷ a) b = tail-mid a b

-- bytes without a zero

pub front-none : (c : List ℕ) → has_zero c ≡ false → front c ≡ c
unfolding front has_zero
front-none [] none = refl
front-none (zero ∷ c) none = absurd (true≢false none)
front-none (suc x ∷ c) none = ap (λ (l : List ℕ). suc x ∷ l) (front-none c none)

pub front-end : (c b : List ℕ) → has_zero c ≡ false → front (c ++ 0 ∷ b) ≡ c
unfolding front has_zero
front-end [] b none = refl
front-end (zero ∷ c) b none = absurd (true≢false none)
front-end (suc x ∷ c) b none = ap (λ (l : List ℕ). suc x ∷ l) (front-end c b none)

pub gaps-none : (c : List ℕ) → has_zero c ≡ false → gaps c ≡ []
unfolding gaps has_zero
gaps-none [] none = refl
gaps-none (zero ∷ c) none = absurd (true≢false none)
gaps-none (suc x ∷ c) none = gaps-none c none

pub gaps-end : (c : List ℕ) → has_zero c ≡ false → gaps (c ++ 0 ∷ []) ≡ []
unfolding gaps has_zero
gaps-end [] none = refl
gaps-end (zero ∷ c) none = absurd (true≢false none)
gaps-end (suc x ∷ c) none = gaps-end c none

pub tail-none : (c : List ℕ) → has_zero c ≡ false → tail c ≡ []
unfolding tail has_zero
tail-none [] none = refl
tail-none (zero ∷ c) none = absurd (true≢false none)
tail-none (suc x ∷ c) none = tail-none c none

pub has_zero-none : (c d : List ℕ) → has_zero c ≡ false → has_zero (c ++ d) ≡ has_zero d
unfolding has_zero
has_zero-none [] d none = refl
has_zero-none (zero ∷ c) d none = absurd (true≢false none)
has_zero-none (suc x ∷ c) d none = has_zero-none c d none

-- between two zeros
pub gaps-one : (c : List ℕ) → has_zero c ≡ false → gaps (0 ∷ (c ++ 0 ∷ [])) ≡ c ∷ []
gaps-one c none = gaps-more (c ++ 0 ∷ []) (has_zero-mid c []) ∙ ap (λ (l : List ℕ). l ∷ gaps (c ++ 0 ∷ [])) (front-end c [] none) ∙ ap (λ (l : List (List ℕ)). c ∷ l) (gaps-end c none)

pub gaps-open : (c : List ℕ) → has_zero c ≡ false → gaps (0 ∷ c) ≡ []
gaps-open c none = gaps-last c none

-- the last zero
pub record LastZero (h : List ℕ) : Type 0 where
  pub before : List ℕ
  pub is : h ≡ before ++ 0 ∷ tail h
  pub none : has_zero (tail h) ≡ false

pub last_zero : (h : List ℕ) → has_zero h ≡ true → LastZero h
unfolding has_zero tail
last_zero [] some = absurd (true≢false (sym some))
last_zero (zero ∷ h) some = elim (cases_Bool (has_zero h)) [
  | inl more ↦
      let l = last_zero h more in
      let t = tail-more h more in
      record { before = 0 ∷ l.before; is = ap (λ (x : List ℕ). 0 ∷ x) l.is ∙ ap (λ (x : List ℕ). 0 ∷ (l.before ++ 0 ∷ x)) (sym t); none = ap has_zero t ∙ l.none }
  | inr last ↦
      let t = tail-last h last in
      record { before = []; is = ap (λ (x : List ℕ). 0 ∷ x) (sym t); none = ap has_zero t ∙ last }
]
last_zero (suc x ∷ h) some =
    let l = last_zero h some in
    record { before = suc x ∷ l.before; is = ap (λ (y : List ℕ). suc x ∷ y) l.is; none = l.none }

pub nonempty-append : (xs ys : List (List ℕ)) → nonempty (xs ++ ys) ≡ nonempty xs ++ nonempty ys
unfolding nonempty
nonempty-append [] ys = refl
nonempty-append ([] ∷ xs) ys = nonempty-append xs ys
nonempty-append ((b ∷ bytes) ∷ xs) ys = ap (λ (l : List (List ℕ)). (b ∷ bytes) ∷ l) (nonempty-append xs ys)

pub pieces-mid : (a b : List ℕ) → pieces (a ++ 0 ∷ b) ≡ pieces (a ++ 0 ∷ []) ++ pieces (0 ∷ b)
pieces-mid a b = ap nonempty (gaps-mid a b) ∙ nonempty-append (gaps (a ++ 0 ∷ [])) (gaps (0 ∷ b))

-- a stream laid out by its zeros

laid_gaps : (last : List ℕ) (between : List (List ℕ)) → has_zero last ≡ false → LackZeros between → gaps (0 ∷ (ended between ++ last)) ≡ between
unfolding ended
laid_gaps last [] none each = gaps-open last none
laid_gaps last (p ∷ between) none each =
    ap (λ (l : List ℕ). gaps (0 ∷ l)) (append_assoc p (0 ∷ ended between) last) ∙ gaps-mid (0 ∷ p) (ended between ++ last)
    ∙ ap (λ (l : List (List ℕ)). l ++ gaps (0 ∷ (ended between ++ last))) (gaps-one p each.0) ∙ ap (λ (l : List (List ℕ)). p ∷ l) (laid_gaps last between none each.1)

laid_tail : (last : List ℕ) (between : List (List ℕ)) → has_zero last ≡ false → tail (0 ∷ (ended between ++ last)) ≡ last
unfolding ended
laid_tail last [] none = tail-last last none
laid_tail last (p ∷ between) none = ap (λ (l : List ℕ). tail (0 ∷ l)) (append_assoc p (0 ∷ ended between) last) ∙ tail-mid (0 ∷ p) (ended between ++ last) ∙ laid_tail last between none

pub laid_out : (first last : List ℕ) (between : List (List ℕ)) → has_zero first ≡ false → has_zero last ≡ false → LackZeros between
    → (front (first ++ (0 ∷ (ended between ++ last))) ≡ first) × (pieces (first ++ (0 ∷ (ended between ++ last))) ≡ nonempty between) × (tail (first ++ (0 ∷ (ended between ++ last))) ≡ last)
laid_out first last between a b each = (
  front-end first (ended between ++ last) a,
  ap nonempty (gaps-mid first (ended between ++ last) ∙ ap (λ (l : List (List ℕ)). l ++ gaps (0 ∷ (ended between ++ last))) (gaps-end first a) ∙ laid_gaps last between b each),
  tail-mid first (ended between ++ last) ∙ laid_tail last between b,
)

-- every stream with a zero is laid out so
pub laid_out_always : (s : List ℕ) → has_zero s ≡ true → s ≡ front s ++ (0 ∷ (ended (gaps s) ++ tail s))
unfolding has_zero front gaps tail ended
laid_out_always [] some = absurd (true≢false (sym some))
laid_out_always (zero ∷ s) some = elim (cases_Bool (has_zero s)) [
  | inl more ↦
      ap (λ (l : List ℕ). 0 ∷ l)
      (laid_out_always s more ∙ sym (append_assoc (front s) (0 ∷ ended (gaps s)) (tail s))
      ∙ ap (λ (l : List (List ℕ)). ended l ++ tail s) (sym (gaps-more s more)) ∙ ap (λ (l : List ℕ). ended (gaps (0 ∷ s)) ++ l) (sym (tail-more s more)))
  | inr last ↦ ap (λ (l : List ℕ). 0 ∷ l) (ap (λ (l : List (List ℕ)). ended l ++ s) (sym (gaps-last s last)) ∙ ap (λ (l : List ℕ). ended (gaps (0 ∷ s)) ++ l) (sym (tail-last s last)))
]
laid_out_always (suc x ∷ s) some = ap (λ (l : List ℕ). suc x ∷ l) (laid_out_always s some)
