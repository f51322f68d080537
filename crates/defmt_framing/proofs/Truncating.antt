-- A stream of frames without its front, and without its end.
use Rattle.std.proofs.Common.{◌≡◌, ◌⊎◌, inl, inr, ℕ, zero, suc, ◌+◌, ◌-◌, ◌<◌, ◌≤◌, List, [], ◌∷◌, ◌++◌, length, map, take, drop, Bool, false, cond, refl, sym, ◌∙◌, ap, subst, arith, append_assoc, length-append}
use Rattle.std.proofs.lemmas.Bool.{cases_lt, le-leb, lt-leb, true≢false}
use Rattle.std.proofs.lemmas.List.{append-nil, drop-append-le, take-append-le, drop_all, take_all}
use Rattle.defmt_framing.specs.Cut.{has_zero, front, tail}
use Rattle.defmt_framing.specs.Told.{Tells, of_piece, of_front, of_tail, cut_off, events}
use Rattle.defmt_framing.specs.Frames.{frame_of, frames, AreCodes, beginning_from, ending_by}
use Rattle.defmt_framing.proofs.Cutting.{front-end, tail-mid}
use Rattle.defmt_framing.proofs.Telling.{told_piece, begun-none, begun-piece, begun-open, begun-front, events-is, events-mid, events-closed, ending}

pub has_zero-drop : (n : ℕ) (c : List ℕ) → has_zero c ≡ false → has_zero (drop n c) ≡ false
unfolding has_zero
has_zero-drop zero c none = none
has_zero-drop (suc n) [] none = none
has_zero-drop (suc n) (zero ∷ c) none = absurd (true≢false none)
has_zero-drop (suc n) (suc x ∷ c) none = has_zero-drop n c none

pub has_zero-take : (n : ℕ) (c : List ℕ) → has_zero c ≡ false → has_zero (take n c) ≡ false
unfolding has_zero
has_zero-take zero c none = refl
has_zero-take (suc n) [] none = none
has_zero-take (suc n) (zero ∷ c) none = absurd (true≢false none)
has_zero-take (suc n) (suc x ∷ c) none = has_zero-take n c none

pub size_of : (c : List ℕ) → length (frame_of c) ≡ length c + 2
size_of c = omega (arith, length-append c (0 ∷ []))

pub frame_then : (c u : List ℕ) → frame_of c ++ u ≡ 0 ∷ (c ++ 0 ∷ u)
frame_then c u = ap (λ (l : List ℕ). 0 ∷ l) (append_assoc c (0 ∷ []) u)

pub drop-past : (xs ys : List ℕ) (n : ℕ) → length xs ≤ n → drop n (xs ++ ys) ≡ drop (n - length xs) ys
drop-past [] ys n le = ap (λ (k : ℕ). drop k ys) (let e : n ≡ n - 0 = omega arith in e)
drop-past (x ∷ xs) ys zero le = absurd (omega arith)
drop-past (x ∷ xs) ys (suc n) le = drop-past xs ys n (omega arith) ∙ ap (λ (k : ℕ). drop k ys) (let e : n - length xs ≡ suc n - suc (length xs) = omega arith in e)

pub take-past : (xs ys : List ℕ) (n : ℕ) → length xs ≤ n → take n (xs ++ ys) ≡ xs ++ take (n - length xs) ys
take-past [] ys n le = ap (λ (k : ℕ). take k ys) (let e : n ≡ n - 0 = omega arith in e)
take-past (x ∷ xs) ys zero le = absurd (omega arith)
take-past (x ∷ xs) ys (suc n) le = ap (λ (l : List ℕ). x ∷ l) (take-past xs ys n (omega arith) ∙ ap (λ (k : ℕ). xs ++ take k ys) (let e : n - length xs ≡ suc n - suc (length xs) = omega arith in e))

from-yes : (place at : ℕ) (c : List ℕ) (codes : List (List ℕ)) → place ≤ at → beginning_from place at (c ∷ codes) ≡ c ∷ beginning_from place (at + length (frame_of c)) codes
unfolding beginning_from
from-yes place at c codes le = ap (λ (b : Bool). cond b (c ∷ []) [] ++ beginning_from place (at + length (frame_of c)) codes) (le-leb place at le)

pub from-no : (place at : ℕ) (c : List ℕ) (codes : List (List ℕ)) → at < place → beginning_from place at (c ∷ codes) ≡ beginning_from place (at + length (frame_of c)) codes
unfolding beginning_from
from-no place at c codes lt = ap (λ (b : Bool). cond b (c ∷ []) [] ++ beginning_from place (at + length (frame_of c)) codes) (lt-leb place at lt)

pub from-all : (place at : ℕ) (codes : List (List ℕ)) → place ≤ at → beginning_from place at codes ≡ codes
unfolding beginning_from
from-all place at [] le = refl
from-all place at (c ∷ codes) le = from-yes place at c codes le ∙ ap (λ (l : List (List ℕ)). c ∷ l) (from-all place (at + length (frame_of c)) codes (omega arith))

pub by-yes : (place at : ℕ) (c : List ℕ) (codes : List (List ℕ)) → at + length (frame_of c) ≤ place → ending_by place at (c ∷ codes) ≡ c ∷ ending_by place (at + length (frame_of c)) codes
unfolding ending_by
by-yes place at c codes le = ap (λ (b : Bool). cond b (c ∷ []) [] ++ ending_by place (at + length (frame_of c)) codes) (le-leb (at + length (frame_of c)) place le)

pub by-no : (place at : ℕ) (c : List ℕ) (codes : List (List ℕ)) → place < at + length (frame_of c) → ending_by place at (c ∷ codes) ≡ ending_by place (at + length (frame_of c)) codes
unfolding ending_by
by-no place at c codes lt = ap (λ (b : Bool). cond b (c ∷ []) [] ++ ending_by place (at + length (frame_of c)) codes) (lt-leb (at + length (frame_of c)) place lt)

pub by-none : (place at : ℕ) (codes : List (List ℕ)) → place ≤ at → ending_by place at codes ≡ []
unfolding ending_by
by-none place at [] le = refl
by-none place at (c ∷ codes) le = by-no place at c codes (omega (arith, size_of c)) ∙ by-none place (at + length (frame_of c)) codes (omega arith)

-- nothing, or a zero first
unfoldable pub StartsFrame : List ℕ → Type 0
StartsFrame u = (u ≡ []) ⊎ ((v : List ℕ) × (u ≡ 0 ∷ v))

starts : (n : ℕ) (codes : List (List ℕ)) → StartsFrame (take n (frames codes))
unfolding StartsFrame frames
starts zero codes = inl refl
starts (suc n) [] = inl refl
starts (suc n) (c ∷ codes) = inr (take n ((c ++ 0 ∷ []) ++ frames codes), refl)

module _ {E : Type 0} (t : Tells E) where
  pub told-some : (c : List ℕ) → 0 < length c → told_piece t c ≡ (of_piece t) c ∷ []
  told-some [] some = absurd (omega arith)
  told-some (b ∷ c) some = refl

  events-nil : events t [] ≡ []
  unfolding has_zero
  events-nil = events-is t [] ∙ ap (λ (l : List E). l ++ ending t []) (begun-none t [] refl)

  events-zero : events t (0 ∷ []) ≡ []
  unfolding has_zero
  events-zero = events-closed t [] ∙ begun-front t [] refl

  -- a zero more in front of a zero tells nothing
  two_zeros : (u : List ℕ) → events t (0 ∷ 0 ∷ u) ≡ events t (0 ∷ u)
  unfolding has_zero
  two_zeros u = events-mid t (0 ∷ []) u ∙ ap (λ (l : List E). l ++ events t (0 ∷ u)) (begun-piece t [] refl)

  pub before_frame : (u : List ℕ) → StartsFrame u → events t (0 ∷ u) ≡ events t u
  unfolding StartsFrame
  before_frame u (inl none) = ap (λ (l : List ℕ). events t (0 ∷ l)) none ∙ events-zero ∙ sym events-nil ∙ ap (events t) (sym none)
  before_frame u (inr s) = ap (λ (l : List ℕ). events t (0 ∷ l)) s.1 ∙ two_zeros s.0 ∙ ap (events t) (sym s.1)

  pub one_frame : (c u : List ℕ) → has_zero c ≡ false → 0 < length c → events t (frame_of c ++ u) ≡ (of_piece t) c ∷ events t (0 ∷ u)
  one_frame c u none some =
      ap (events t) (frame_then c u) ∙ events-mid t (0 ∷ c) u ∙ ap (λ (l : List E). l ++ events t (0 ∷ u)) (begun-piece t c none ∙ told-some c some)

  pub after_zero : (codes : List (List ℕ)) → AreCodes codes → events t (0 ∷ frames codes) ≡ map (of_piece t) codes
  unfolding frames
  after_zero [] are = events-zero
  after_zero (c ∷ codes) are = two_zeros ((c ++ 0 ∷ []) ++ frames codes) ∙ one_frame c (frames codes) are.0 are.1 ∙ ap (λ (l : List E). (of_piece t) c ∷ l) (after_zero codes are.2)

  pub of_frames : (codes : List (List ℕ)) → AreCodes codes → events t (frames codes) ≡ map (of_piece t) codes
  unfolding frames
  of_frames [] are = events-nil
  of_frames (c ∷ codes) are = one_frame c (frames codes) are.0 are.1 ∙ ap (λ (l : List E). (of_piece t) c ∷ l) (after_zero codes are.2)

  -- without the front

  Fronted : ℕ → ℕ → List (List ℕ) → Type 0
  Fronted place at codes = events t (drop (place - at) (frames codes)) ≡ cut_off (of_front t) (front (drop (place - at) (frames codes))) ++ map (of_piece t) (beginning_from place at codes)

  -- what is left begins with the rest of a frame
  cut_front_is : (s r : List ℕ) (codes left : List (List ℕ)) → s ≡ r ++ 0 ∷ frames codes → has_zero r ≡ false → AreCodes codes → left ≡ codes → events t s ≡ cut_off (of_front t) (front s) ++ map (of_piece t) left
  cut_front_is s r codes left is none are all =
      ap (events t) is ∙ events-mid t r (frames codes) ∙ ap (λ (l : List E). l ++ events t (0 ∷ frames codes)) (begun-front t r none)
      ∙ ap (λ (l : List E). cut_off (of_front t) r ++ l) (after_zero codes are ∙ ap (map (of_piece t)) (sym all))
      ∙ ap (λ (l : List ℕ). cut_off (of_front t) l ++ map (of_piece t) left) (sym (front-end r (frames codes) none) ∙ ap front (sym is))

  nothing_left : (n : ℕ) (s : List ℕ) → s ≡ [] → events t s ≡ cut_off (of_front t) (front s) ++ []
  unfolding front
  nothing_left n s is = ap (events t) is ∙ events-nil ∙ ap (λ (l : List ℕ). cut_off (of_front t) (front l) ++ []) (sym is)

  all_left : (c : List ℕ) (codes : List (List ℕ)) (s : List ℕ) → s ≡ frames (c ∷ codes) → AreCodes (c ∷ codes) → events t s ≡ cut_off (of_front t) (front s) ++ map (of_piece t) (c ∷ codes)
  unfolding front frames
  all_left c codes s is are = ap (events t) is ∙ of_frames (c ∷ codes) are ∙ ap (λ (l : List ℕ). cut_off (of_front t) (front l) ++ map (of_piece t) (c ∷ codes)) (sym is)

  fronted : (place at : ℕ) (codes : List (List ℕ)) → AreCodes codes → Fronted place at codes
  unfolding Fronted frames beginning_from
  fronted place at [] are = nothing_left 0 (drop (place - at) []) (drop_all (place - at) [] (omega arith))
  fronted place at (c ∷ codes) are = elim (cases_lt at place) [
    | inr early ↦
        let all : beginning_from place at (c ∷ codes) ≡ c ∷ codes = from-all place at (c ∷ codes) early in
        let whole : drop (place - at) (frames (c ∷ codes)) ≡ frames (c ∷ codes) = ap (λ (n : ℕ). drop n (frames (c ∷ codes))) (let e : place - at ≡ 0 = omega arith in e) in
        all_left c codes (drop (place - at) (frames (c ∷ codes))) whole are ∙ ap (λ (l : List (List ℕ)). cut_off (of_front t) (front (drop (place - at) (frames (c ∷ codes)))) ++ map (of_piece t) l) (sym all)
    | inl late ↦ elim (cases_lt place (at + length (frame_of c))) [
      | inl within ↦
          let j = place - at - 1 in
          let short : j ≤ length c = omega (arith, size_of c) in
          let s : drop (place - at) (frames (c ∷ codes)) ≡ drop j c ++ 0 ∷ frames codes =
          ap (λ (n : ℕ). drop n (frames (c ∷ codes))) (let e : place - at ≡ suc j = omega arith in e)
          ∙ ap (drop j) (append_assoc c (0 ∷ []) (frames codes)) ∙ drop-append-le j c (0 ∷ frames codes) short in
          cut_front_is (drop (place - at) (frames (c ∷ codes))) (drop j c) codes (beginning_from place at (c ∷ codes)) s (has_zero-drop j c are.0) are.2
          (from-no place at c codes late ∙ from-all place (at + length (frame_of c)) codes (omega arith))
      | inr behind ↦
          let s : drop (place - at) (frames (c ∷ codes)) ≡ drop (place - (at + length (frame_of c))) (frames codes) =
          drop-past (frame_of c) (frames codes) (place - at) (omega arith) ∙ ap (λ (n : ℕ). drop n (frames codes)) (let e : place - at - length (frame_of c) ≡ place - (at + length (frame_of c)) = omega arith in e) in
          ap (events t) s ∙ fronted place (at + length (frame_of c)) codes are.2
          ∙ ap (λ (l : List ℕ). cut_off (of_front t) (front l) ++ map (of_piece t) (beginning_from place (at + length (frame_of c)) codes)) (sym s)
          ∙ ap (λ (l : List (List ℕ)). cut_off (of_front t) (front (drop (place - at) (frames (c ∷ codes)))) ++ map (of_piece t) l) (sym (from-no place at c codes late))
    ]
  ]

  pub without_front : (place : ℕ) (codes : List (List ℕ)) → AreCodes codes
      → events t (drop place (frames codes)) ≡ cut_off (of_front t) (front (drop place (frames codes))) ++ map (of_piece t) (beginning_from place 0 codes)
  unfolding Fronted
  without_front place codes are = subst (λ (n : ℕ). events t (drop n (frames codes)) ≡ cut_off (of_front t) (front (drop n (frames codes))) ++ map (of_piece t) (beginning_from place 0 codes)) (let e : place - 0 ≡ place = omega arith in e) (fronted place 0 codes are)

  -- without the end

  Ended : ℕ → ℕ → List (List ℕ) → Type 0
  Ended place at codes = events t (take (place - at) (frames codes)) ≡ map (of_piece t) (ending_by place at codes) ++ cut_off (of_tail t) (tail (take (place - at) (frames codes)))

  none_taken : (s : List ℕ) (codes : List (List ℕ)) → s ≡ [] → codes ≡ [] → events t s ≡ map (of_piece t) codes ++ cut_off (of_tail t) (tail s)
  unfolding tail
  none_taken s codes is none = ap (events t) is ∙ events-nil ∙ ap (λ (l : List ℕ). cut_off (of_tail t) (tail l)) (sym is) ∙ ap (λ (l : List (List ℕ)). map (of_piece t) l ++ cut_off (of_tail t) (tail s)) (sym none)

  part_taken : (s r : List ℕ) (codes : List (List ℕ)) → s ≡ 0 ∷ r → has_zero r ≡ false → codes ≡ [] → events t s ≡ map (of_piece t) codes ++ cut_off (of_tail t) (tail s)
  unfolding has_zero
  part_taken s r codes is none without = ap (events t) is ∙ events-is t (0 ∷ r) ∙ ap (λ (l : List E). l ++ ending t (0 ∷ r)) (begun-open t r none)
      ∙ ap (λ (l : List ℕ). cut_off (of_tail t) (tail l)) (sym is) ∙ ap (λ (l : List (List ℕ)). map (of_piece t) l ++ cut_off (of_tail t) (tail s)) (sym without)

  tail_behind : (c u : List ℕ) → StartsFrame u → tail (frame_of c ++ u) ≡ tail u
  unfolding StartsFrame tail has_zero
  tail_behind c u (inl none) = ap (λ (l : List ℕ). tail (frame_of c ++ l)) none ∙ ap tail (append-nil (frame_of c)) ∙ tail-mid (0 ∷ c) [] ∙ ap tail (sym none)
  tail_behind c u (inr s) = ap (λ (l : List ℕ). tail (frame_of c ++ l)) s.1 ∙ tail-mid (frame_of c) s.0 ∙ ap tail (sym s.1)

  ended : (place at : ℕ) (codes : List (List ℕ)) → AreCodes codes → Ended place at codes
  unfolding Ended frames ending_by
  ended place at [] are = none_taken (take (place - at) []) [] (take_all (place - at) [] (omega arith)) refl
  ended place at (c ∷ codes) are = elim (cases_lt at place) [
    | inr early ↦ none_taken (take (place - at) (frames (c ∷ codes))) (ending_by place at (c ∷ codes)) (ap (λ (n : ℕ). take n (frames (c ∷ codes))) (let e : place - at ≡ 0 = omega arith in e)) (by-none place at (c ∷ codes) early)
    | inl late ↦ elim (cases_lt place (at + length (frame_of c))) [
      | inl within ↦
          let j = place - at - 1 in
          let short : j ≤ length c = omega (arith, size_of c) in
          let s : take (place - at) (frames (c ∷ codes)) ≡ 0 ∷ take j c =
          ap (λ (n : ℕ). take n (frames (c ∷ codes))) (let e : place - at ≡ suc j = omega arith in e)
          ∙ ap (λ (l : List ℕ). 0 ∷ take j l) (append_assoc c (0 ∷ []) (frames codes)) ∙ ap (λ (l : List ℕ). 0 ∷ l) (take-append-le j c (0 ∷ frames codes) short) in
          part_taken (take (place - at) (frames (c ∷ codes))) (take j c) (ending_by place at (c ∷ codes)) s (has_zero-take j c are.0)
          (by-no place at c codes within ∙ by-none place (at + length (frame_of c)) codes (omega arith))
      | inr behind ↦
          let u = take (place - (at + length (frame_of c))) (frames codes) in
          let s : take (place - at) (frames (c ∷ codes)) ≡ frame_of c ++ u =
          take-past (frame_of c) (frames codes) (place - at) (omega arith) ∙ ap (λ (n : ℕ). frame_of c ++ take n (frames codes)) (let e : place - at - length (frame_of c) ≡ place - (at + length (frame_of c)) = omega arith in e) in
          let st = starts (place - (at + length (frame_of c))) codes in
          ap (events t) s ∙ one_frame c u are.0 are.1 ∙ ap (λ (l : List E). (of_piece t) c ∷ l) (before_frame u st ∙ ended place (at + length (frame_of c)) codes are.2)
          ∙ ap (λ (l : List ℕ). (of_piece t) c ∷ (map (of_piece t) (ending_by place (at + length (frame_of c)) codes) ++ cut_off (of_tail t) l)) (sym (tail_behind c u st) ∙ ap tail (sym s))
          ∙ ap (λ (l : List (List ℕ)). map (of_piece t) l ++ cut_off (of_tail t) (tail (take (place - at) (frames (c ∷ codes))))) (sym (by-yes place at c codes behind))
    ]
  ]

  pub without_end : (place : ℕ) (codes : List (List ℕ)) → AreCodes codes
      → events t (take place (frames codes)) ≡ map (of_piece t) (ending_by place 0 codes) ++ cut_off (of_tail t) (tail (take place (frames codes)))
  unfolding Ended
  without_end place codes are = subst (λ (n : ℕ). events t (take n (frames codes)) ≡ map (of_piece t) (ending_by place 0 codes) ++ cut_off (of_tail t) (tail (take n (frames codes)))) (let e : place - 0 ≡ place = omega arith in e) (ended place 0 codes are)
