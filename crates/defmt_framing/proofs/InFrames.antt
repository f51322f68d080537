-- A cut between two frames of a stream, and one within a frame.
use Rattle.std.proofs.Common.{◌≡◌, inr, ℕ, suc, ◌+◌, ◌-◌, ◌<◌, ◌≤◌, List, [], ◌∷◌, ◌++◌, length, map, take, drop, false, refl, sym, ◌∙◌, ap, arith, append_assoc, length-append}
use Rattle.std.proofs.lemmas.List.{append-nil, drop-append-le, take-append-le}
use Rattle.defmt_framing.specs.Cut.{has_zero}
use Rattle.defmt_framing.specs.Told.{Tells, of_piece, of_front, of_tail, cut_off, events}
use Rattle.defmt_framing.specs.Frames.{frame_of, frames, AreCodes, beginning_from, ending_by}
use Rattle.defmt_framing.proofs.Cutting.{tail-last}
use Rattle.defmt_framing.proofs.Telling.{begun-front, begun-open, events-is, events-mid, ending}
use Rattle.defmt_framing.proofs.Truncating.{has_zero-drop, has_zero-take, frame_then, drop-past, take-past, from-no, from-all, by-yes, by-no, by-none, StartsFrame, before_frame, one_frame, after_zero, of_frames}

-- ---- joined frames

pub left : (before after : List (List ℕ)) → AreCodes (before ++ after) → AreCodes before
left [] after are = tt
left (c ∷ before) after are = (are.0, are.1, left before after are.2)

pub right : (before after : List (List ℕ)) → AreCodes (before ++ after) → AreCodes after
right [] after are = are
right (c ∷ before) after are = right before after are.2

frames_then : (before after : List (List ℕ)) → frames (before ++ after) ≡ frames before ++ frames after
unfolding frames
frames_then [] after = refl
frames_then (c ∷ before) after =
    ap (λ (l : List ℕ). frame_of c ++ l) (frames_then before after) ∙ sym (append_assoc (frame_of c) (frames before) (frames after))

frames_more : (c : List ℕ) (codes : List (List ℕ)) → frames (c ∷ codes) ≡ 0 ∷ (c ++ 0 ∷ frames codes)
unfolding frames
frames_more c codes = frame_then c (frames codes)

pub size_none : length (frames []) ≡ 0
unfolding frames
size_none = refl

pub size_more : (c : List ℕ) (codes : List (List ℕ)) → length (frames (c ∷ codes)) ≡ length (frame_of c) + length (frames codes)
unfolding frames
size_more c codes = length-append (frame_of c) (frames codes)

-- ---- which frames

pub from_between : (place at : ℕ) (before after : List (List ℕ)) → place ≡ at + length (frames before) → beginning_from place at (before ++ after) ≡ after
from_between place at [] after is = from-all place at after (omega (arith, is, size_none))
from_between place at (c ∷ before) after is =
    from-no place at c (before ++ after) (omega (arith, is, size_more c before))
    ∙ from_between place (at + length (frame_of c)) before after (omega (arith, is, size_more c before))

pub by_between : (place at : ℕ) (before after : List (List ℕ)) → place ≡ at + length (frames before) → ending_by place at (before ++ after) ≡ before
by_between place at [] after is = by-none place at after (omega (arith, is, size_none))
by_between place at (c ∷ before) after is =
    by-yes place at c (before ++ after) (omega (arith, is, size_more c before))
    ∙ ap (λ (l : List (List ℕ)). c ∷ l) (by_between place (at + length (frame_of c)) before after (omega (arith, is, size_more c before)))

pub from_within : (place at : ℕ) (before after : List (List ℕ)) (c : List ℕ) → at + length (frames before) < place → place < at + length (frames before) + length (frame_of c)
    → beginning_from place at (before ++ c ∷ after) ≡ after
from_within place at [] after c late early =
    from-no place at c after (omega (arith, late)) ∙ from-all place (at + length (frame_of c)) after (omega (arith, early, size_none))
from_within place at (b ∷ before) after c late early =
    from-no place at b (before ++ c ∷ after) (omega (arith, late))
    ∙ from_within place (at + length (frame_of b)) before after c (omega (arith, late, size_more b before)) (omega (arith, early, size_more b before))

pub by_within : (place at : ℕ) (before after : List (List ℕ)) (c : List ℕ) → at + length (frames before) < place → place < at + length (frames before) + length (frame_of c)
    → ending_by place at (before ++ c ∷ after) ≡ before
by_within place at [] after c late early =
    by-no place at c after (omega (arith, early, size_none)) ∙ by-none place (at + length (frame_of c)) after (omega (arith, early, size_none))
by_within place at (b ∷ before) after c late early =
    by-yes place at b (before ++ c ∷ after) (omega (arith, late, size_more b before))
    ∙ ap (λ (l : List (List ℕ)). b ∷ l) (by_within place (at + length (frame_of b)) before after c (omega (arith, late, size_more b before)) (omega (arith, early, size_more b before)))

-- ---- what is left

rest_between : (before after : List (List ℕ)) → drop (length (frames before)) (frames (before ++ after)) ≡ frames after
rest_between before after =
    ap (drop (length (frames before))) (frames_then before after) ∙ drop-past (frames before) (frames after) (length (frames before)) (omega arith)
    ∙ ap (λ (k : ℕ). drop k (frames after)) (let e : length (frames before) - length (frames before) ≡ 0 = omega arith in e)

start_between : (before after : List (List ℕ)) → take (length (frames before)) (frames (before ++ after)) ≡ frames before
start_between before after =
    ap (take (length (frames before))) (frames_then before after) ∙ take-past (frames before) (frames after) (length (frames before)) (omega arith)
    ∙ ap (λ (k : ℕ). frames before ++ take k (frames after)) (let e : length (frames before) - length (frames before) ≡ 0 = omega arith in e)
    ∙ append-nil (frames before)

one_byte_on : (size n : ℕ) → size + 1 + n - size ≡ suc n
one_byte_on size n = omega arith

rest_within : (n : ℕ) (before after : List (List ℕ)) (c : List ℕ) → n ≤ length c → drop (length (frames before) + 1 + n) (frames (before ++ c ∷ after)) ≡ drop n c ++ 0 ∷ frames after
rest_within n before after c short =
    ap (drop (length (frames before) + 1 + n)) (frames_then before (c ∷ after))
    ∙ drop-past (frames before) (frames (c ∷ after)) (length (frames before) + 1 + n) (omega arith)
    ∙ ap (λ (k : ℕ). drop k (frames (c ∷ after))) (one_byte_on (length (frames before)) n)
    ∙ ap (drop (suc n)) (frames_more c after) ∙ drop-append-le n c (0 ∷ frames after) short

start_within : (n : ℕ) (before after : List (List ℕ)) (c : List ℕ) → n ≤ length c → take (length (frames before) + 1 + n) (frames (before ++ c ∷ after)) ≡ frames before ++ 0 ∷ take n c
start_within n before after c short =
    ap (take (length (frames before) + 1 + n)) (frames_then before (c ∷ after))
    ∙ take-past (frames before) (frames (c ∷ after)) (length (frames before) + 1 + n) (omega arith)
    ∙ ap (λ (k : ℕ). frames before ++ take k (frames (c ∷ after))) (one_byte_on (length (frames before)) n)
    ∙ ap (λ (l : List ℕ). frames before ++ take (suc n) l) (frames_more c after)
    ∙ ap (λ (l : List ℕ). frames before ++ 0 ∷ l) (take-append-le n c (0 ∷ frames after) short)

begins : (codes : List (List ℕ)) (r : List ℕ) → StartsFrame (frames codes ++ 0 ∷ r)
unfolding StartsFrame frames
begins [] r = inr (r, refl)
begins (c ∷ codes) r = inr (((c ++ 0 ∷ []) ++ frames codes) ++ 0 ∷ r, refl)

-- ---- what is told

module _ {E : Type 0} (t : Tells E) where
  of_rest : (r : List ℕ) (codes : List (List ℕ)) → has_zero r ≡ false → AreCodes codes → events t (r ++ 0 ∷ frames codes) ≡ cut_off (of_front t) r ++ map (of_piece t) codes
  of_rest r codes none are =
      events-mid t r (frames codes) ∙ ap (λ (l : List E). l ++ events t (0 ∷ frames codes)) (begun-front t r none)
      ∙ ap (λ (l : List E). cut_off (of_front t) r ++ l) (after_zero t codes are)

  of_start : (codes : List (List ℕ)) (r : List ℕ) → has_zero r ≡ false → AreCodes codes → events t (frames codes ++ 0 ∷ r) ≡ map (of_piece t) codes ++ cut_off (of_tail t) r
  unfolding frames has_zero
  of_start [] r none are = events-is t (0 ∷ r) ∙ ap (λ (l : List E). l ++ ending t (0 ∷ r)) (begun-open t r none) ∙ ap (cut_off (of_tail t)) (tail-last r none)
  of_start (c ∷ codes) r none are =
      ap (events t) (append_assoc (frame_of c) (frames codes) (0 ∷ r)) ∙ one_frame t c (frames codes ++ 0 ∷ r) are.0 are.1
      ∙ ap (λ (l : List E). (of_piece t) c ∷ l) (before_frame t (frames codes ++ 0 ∷ r) (begins codes r) ∙ of_start codes r none are.2)

  pub told_from : (before after : List (List ℕ)) → AreCodes (before ++ after) → events t (drop (length (frames before)) (frames (before ++ after))) ≡ map (of_piece t) after
  told_from before after are = ap (events t) (rest_between before after) ∙ of_frames t after (right before after are)

  pub told_by : (before after : List (List ℕ)) → AreCodes (before ++ after) → events t (take (length (frames before)) (frames (before ++ after))) ≡ map (of_piece t) before
  told_by before after are = ap (events t) (start_between before after) ∙ of_frames t before (left before after are)

  pub told_behind : (n : ℕ) (before after : List (List ℕ)) (c : List ℕ) → AreCodes (before ++ c ∷ after) → n ≤ length c
      → events t (drop (length (frames before) + 1 + n) (frames (before ++ c ∷ after))) ≡ cut_off (of_front t) (drop n c) ++ map (of_piece t) after
  told_behind n before after c are short =
      let here = right before (c ∷ after) are in
      ap (events t) (rest_within n before after c short) ∙ of_rest (drop n c) after (has_zero-drop n c here.0) here.2

  pub told_ahead : (n : ℕ) (before after : List (List ℕ)) (c : List ℕ) → AreCodes (before ++ c ∷ after) → n ≤ length c
      → events t (take (length (frames before) + 1 + n) (frames (before ++ c ∷ after))) ≡ map (of_piece t) before ++ cut_off (of_tail t) (take n c)
  told_ahead n before after c are short =
      let here = right before (c ∷ after) are in
      ap (events t) (start_within n before after c short) ∙ of_start before (take n c) (has_zero-take n c here.0) (left before (c ∷ after) are)
