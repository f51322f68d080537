-- How many whole frames a stream has with one byte more.
use Rattle.std.proofs.Common.{◌≡◌, ℕ, zero, suc, ◌+◌, ◌≤◌, List, [], ◌∷◌, ◌++◌, Bool, true, false, cond, length, length-append, append_assoc, append-nil, refl, sym, ap, ◌∙◌, subst, inl, inr, arith}
use Rattle.std.specs.Prelude.{if◌then◌else◌}
use Rattle.std.proofs.lemmas.Bool.{cases_Bool}
use Rattle.defmt_framing.proofs.Cutting.{LastZero, gaps-end, gaps-none, gaps-one, has_zero-mid, last_zero, pieces-mid, tail-last, tail-mid, tail-none}
use Rattle.defmt_framing.specs.Cut.{front, gaps, has_zero, nonempty, pieces, tail}
use Rattle.defmt_steer.specs.Steers.{Counts, is_open, whole_frames}

gaps_open : (c : List ℕ) → has_zero c ≡ false → gaps (0 ∷ c) ≡ []
unfolding gaps
gaps_open c none = ap (λ (b : Bool). cond b (front c ∷ gaps c) []) none

no_zero : has_zero [] ≡ false
unfolding has_zero
no_zero = refl

-- ---- a byte that is no zero

has_zero-other : (h : List ℕ) (b : ℕ) → has_zero (h ++ suc b ∷ []) ≡ has_zero h
unfolding has_zero
has_zero-other [] b = refl
has_zero-other (zero ∷ h) b = refl
has_zero-other (suc x ∷ h) b = has_zero-other h b

open_snoc : (xs : List ℕ) (b : ℕ) → is_open (xs ++ b ∷ []) ≡ true
open_snoc [] b = refl
open_snoc (x ∷ xs) b = refl

-- the stream behind its last zero goes on
goes_on : (h more : List ℕ) (l : LastZero h) → h ++ more ≡ l.before ++ 0 ∷ (tail h ++ more)
goes_on h more l = ap (λ (x : List ℕ). x ++ more) l.is ∙ append_assoc l.before (0 ∷ tail h) more

pieces_last : (h : List ℕ) (l : LastZero h) → pieces h ≡ pieces (l.before ++ 0 ∷ [])
unfolding nonempty
pieces_last h l =
    ap pieces l.is ∙ pieces-mid l.before (tail h)
    ∙ ap (λ (g : List (List ℕ)). pieces (l.before ++ 0 ∷ []) ++ nonempty g) (gaps_open (tail h) l.none)
    ∙ append-nil (pieces (l.before ++ 0 ∷ []))

pieces_other : (h : List ℕ) (b : ℕ) → pieces (h ++ suc b ∷ []) ≡ pieces h
unfolding nonempty
pieces_other h b = elim (cases_Bool (has_zero h)) [
  | inl some ↦
      let l : LastZero h = last_zero h some in
      let run : List ℕ = tail h ++ suc b ∷ [] in
      let none : has_zero run ≡ false = has_zero-other (tail h) b ∙ l.none in
      ap pieces (goes_on h (suc b ∷ []) l) ∙ pieces-mid l.before run
      ∙ ap (λ (g : List (List ℕ)). pieces (l.before ++ 0 ∷ []) ++ nonempty g) (gaps_open run none)
      ∙ append-nil (pieces (l.before ++ 0 ∷ [])) ∙ sym (pieces_last h l)
  | inr none ↦ ap nonempty (gaps-none (h ++ suc b ∷ []) (has_zero-other h b ∙ none) ∙ sym (gaps-none h none))
]

open_other : (h : List ℕ) (b : ℕ) → is_open (tail (h ++ suc b ∷ [])) ≡ has_zero h
open_other h b = elim (cases_Bool (has_zero h)) [
  | inl some ↦
      let l : LastZero h = last_zero h some in
      let run : List ℕ = tail h ++ suc b ∷ [] in
      let none : has_zero run ≡ false = has_zero-other (tail h) b ∙ l.none in
      ap (λ (x : List ℕ). is_open (tail x)) (goes_on h (suc b ∷ []) l) ∙ ap is_open (tail-mid l.before run ∙ tail-last run none) ∙ open_snoc (tail h) (suc b) ∙ sym some
  | inr none ↦ ap is_open (tail-none (h ++ suc b ∷ []) (has_zero-other h b ∙ none)) ∙ sym none
]

pub counted_other : (frames : ℕ) (zeros begun : Bool) (h : List ℕ) (b : ℕ) → (b ≡ 0 → ⊥) → Counts frames zeros begun h → Counts frames zeros zeros (h ++ b ∷ [])
counted_other frames zeros begun h zero not k = absurd (not refl)
counted_other frames zeros begun h (suc b) not k = record {
  frames_are = k.frames_are ∙ ap length (sym (pieces_other h b));
  zeros_are = k.zeros_are ∙ sym (has_zero-other h b);
  begun_is = k.zeros_are ∙ sym (open_other h b);
}

-- ---- a zero

nonempty_one : (t : List ℕ) → length (nonempty (t ∷ [])) ≡ (if is_open t then 1 else 0)
unfolding nonempty
nonempty_one [] = refl
nonempty_one (b ∷ bytes) = refl

frames_zero : (h : List ℕ) → whole_frames (h ++ 0 ∷ []) ≡ whole_frames h + (if is_open (tail h) then 1 else 0)
unfolding nonempty
frames_zero h = elim (cases_Bool (has_zero h)) [
  | inl some ↦
      let l : LastZero h = last_zero h some in
      let now : pieces (h ++ 0 ∷ []) ≡ pieces h ++ nonempty (tail h ∷ []) =
      ap pieces (goes_on h (0 ∷ []) l) ∙ pieces-mid l.before (tail h ++ 0 ∷ [])
      ∙ ap (λ (g : List (List ℕ)). pieces (l.before ++ 0 ∷ []) ++ nonempty g) (gaps-one (tail h) l.none)
      ∙ ap (λ (x : List (List ℕ)). x ++ nonempty (tail h ∷ [])) (sym (pieces_last h l)) in
      ap length now ∙ length-append (pieces h) (nonempty (tail h ∷ [])) ∙ ap (λ (n : ℕ). whole_frames h + n) (nonempty_one (tail h))
  | inr none ↦
      let now : whole_frames (h ++ 0 ∷ []) ≡ 0 = ap (λ (g : List (List ℕ)). length (nonempty g)) (gaps-end h none) in
      let before : whole_frames h ≡ 0 = ap (λ (g : List (List ℕ)). length (nonempty g)) (gaps-none h none) in
      let shut : ◌≡◌ {A = ℕ} (if is_open (tail h) then 1 else 0) 0 = ap (λ (t : List ℕ). if is_open t then 1 else 0) (tail-none h none) in
      omega (arith, now, before, shut)
]

counted_by : (frames : ℕ) (begun : Bool) (h : List ℕ) → frames ≡ whole_frames h → begun ≡ is_open (tail h)
    → (if begun then frames + 1 else frames) ≡ whole_frames (h ++ 0 ∷ [])
counted_by frames begun h e f =
    let now : whole_frames (h ++ 0 ∷ []) ≡ whole_frames h + (if begun then 1 else 0) = frames_zero h ∙ ap (λ (b : Bool). whole_frames h + (if b then 1 else 0)) (sym f) in
    subst (λ (n : ℕ). (if begun then frames + 1 else frames) ≡ n) (sym now)
    (elim begun as (λ (b : Bool). (if b then frames + 1 else frames) ≡ whole_frames h + (if b then 1 else 0)) [ true ↦ omega (arith, e) | false ↦ omega (arith, e) ])

pub counted_zero : (frames : ℕ) (zeros begun : Bool) (h : List ℕ) (b : ℕ) → b ≡ 0 → Counts frames zeros begun h
    → Counts (if begun then frames + 1 else frames) true false (h ++ b ∷ [])
counted_zero frames zeros begun h b is k =
    let P : ℕ → Type 0 = λ x. Counts (if begun then frames + 1 else frames) true false (h ++ x ∷ []) in
    subst P (sym is) (record {
      frames_are = counted_by frames begun h k.frames_are k.begun_is;
      zeros_are = sym (has_zero-mid h []);
      begun_is = ap is_open (sym (tail-last [] no_zero)) ∙ ap is_open (sym (tail-mid h []));
    })

-- ---- no byte yet, and how many there can be

pub counted_first : Counts 0 false false []
unfolding has_zero gaps nonempty tail
counted_first = record { frames_are = refl; zeros_are = refl; begun_is = refl }

whole_few-snoc : (h : List ℕ) (b : ℕ) → whole_frames (h ++ b ∷ []) ≤ whole_frames h + 1
whole_few-snoc h zero =
    let most : (if is_open (tail h) then 1 else 0) ≤ 1 = elim (is_open (tail h)) as (λ (c : Bool). (if c then 1 else 0) ≤ 1) [ true ↦ omega arith | false ↦ omega arith ] in
    omega (arith, frames_zero h, most)
whole_few-snoc h (suc b) = let same : whole_frames (h ++ suc b ∷ []) ≡ whole_frames h = ap length (pieces_other h b) in omega (arith, same)

whole_few-from : (h more : List ℕ) → whole_frames (h ++ more) ≤ whole_frames h + length more
whole_few-from h [] = let same : whole_frames (h ++ []) ≡ whole_frames h = ap whole_frames (append-nil h) in omega (arith, same)
whole_few-from h (b ∷ more) =
    let same : whole_frames (h ++ b ∷ more) ≡ whole_frames ((h ++ b ∷ []) ++ more) = ap whole_frames (sym (append_assoc h (b ∷ []) more)) in
    omega (arith, same, whole_few-from (h ++ b ∷ []) more, whole_few-snoc h b)

none_whole : whole_frames [] ≡ 0
none_whole = sym counted_first.frames_are

-- there are no more whole frames than bytes
pub whole_few : (stream : List ℕ) → whole_frames stream ≤ length stream
whole_few stream = omega (arith, whole_few-from [] stream, none_whole)
