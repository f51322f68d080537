-- Texts that end at a place.
use Rattle.std.proofs.Common.{◌≡◌, ◌<◌, ◌≤◌, ◌+◌, ◌-◌, ◌/◌, ◌%◌, ◌^◌, ℕ, List, [], ◌∷◌, ◌++◌, length, take, drop, length-append, refl, sym, ap, ◌∙◌, arith}
use Rattle.std.proofs.Math.Seq.{take-add}
use Rattle.std.proofs.lemmas.Slice.{take-put_mid, drop-put_mid}
use Rattle.std.proofs.lemmas.List.{take_at, drop-drop}
use Rattle.std.proofs.lemmas.Fmt.{decimal_step, decimal_digit}
use Rattle.std.specs.Fmt.{decimal}
use borrow.Rule.Slice.PartMut.{put_mid, mid_len, same_len_mid}
use Rattle.defmt_hints.proofs.Decimals.{std_decimal}
use Rattle.defmt_hints.specs.Printed.{decimal_text}
use Rattle.defmt_hints.specs.Written.{Written}

-- ---- decimal digits

pub one_digit : (n : ℕ) → n < 10 → length (decimal n) ≡ 1
one_digit n h = rw (decimal_digit n h) refl

-- a single digit as a text
pub digit_text : (n : ℕ) → n < 10 → (48 + n) ∷ [] ≡ decimal_text n
digit_text n h = sym (decimal_digit n h) ∙ std_decimal n (omega (arith, h))

pub more_digits : (n : ℕ) → 10 ≤ n → n < 2 ^ 64 → length (decimal n) ≡ length (decimal (n / 10)) + 1
more_digits n h lt = ap length (decimal_step n h lt) ∙ length-append (decimal (n / 10)) ((48 + n % 10) ∷ [])

pub two_digits : (n : ℕ) → 10 ≤ n → n < 100 → length (decimal n) ≡ 2
two_digits n h lt = omega (arith, more_digits n h (omega (arith, lt)), one_digit (n / 10) (omega (arith, lt)))

pub three_digits : (n : ℕ) → 100 ≤ n → n < 1000 → length (decimal n) ≡ 3
three_digits n h lt = omega (arith, more_digits n (omega (arith, h)) (omega (arith, lt)), two_digits (n / 10) (omega (arith, h)) (omega (arith, lt)))

pub four_digits : (n : ℕ) → 1000 ≤ n → n < 10000 → length (decimal n) ≡ 4
four_digits n h lt = omega (arith, more_digits n (omega (arith, h)) (omega (arith, lt)), three_digits (n / 10) (omega (arith, h)) (omega (arith, lt)))

pub four_more : (n : ℕ) → 10000 ≤ n → n < 2 ^ 64 → length (decimal n) ≡ length (decimal (n / 10000)) + 4
four_more n h lt =
    let q1 : ℕ = n / 10 in
    let q2 : ℕ = q1 / 10 in
    let q3 : ℕ = q2 / 10 in
    let a = more_digits n (omega (arith, h)) lt in
    let b = more_digits q1 (omega (arith, h)) (omega (arith, lt)) in
    let c = more_digits q2 (omega (arith, h)) (omega (arith, lt)) in
    let d = more_digits q3 (omega (arith, h)) (omega (arith, lt)) in
    let same : q3 / 10 ≡ n / 10000 = omega arith in
    a ∙ ap (λ (m : ℕ). m + 1) (b ∙ ap (λ (m : ℕ). m + 1) (c ∙ ap (λ (m : ℕ). m + 1) d)) ∙ omega (arith, ap (λ (m : ℕ). length (decimal m)) same)

-- ---- a text behind a place

drop_at : (a b : List ℕ) → drop (length a) (a ++ b) ≡ b
drop_at [] b = refl
drop_at (x ∷ a) b = drop_at a b

-- where a text starts at the place and the rest is as before
pub written_here : (old new text : List ℕ) (at start end : ℕ) → at ≤ length old → end ≤ length old → length new ≡ length old → at + length text ≡ end → start + length text ≡ end → drop start new ≡ text ++ drop end old → take start new ≡ take start old → Written old at new end text
written_here old new text at start end le most same_length e s d t =
    let same : start ≡ at = omega arith in
    let size : end ≡ start + length text = omega arith in
    let front : take end new ≡ take start new ++ take (length text) (drop start new) = ap (λ (n : ℕ). take n new) size ∙ take-add start (length text) new in
    record {
      long = same_length;
      within = most;
      written = front ∙ ap (λ (x : List ℕ). take start new ++ take (length text) x) d
          ∙ ap (λ (x : List ℕ). take start new ++ x) (take_at text (drop end old) (length text) refl)
          ∙ ap (λ (x : List ℕ). x ++ text) t
          ∙ ap (λ (n : ℕ). take n old ++ text) same;
      behind = ap (λ (n : ℕ). drop n new) size ∙ sym (drop-drop (length text) start new) ∙ ap (drop (length text)) d ∙ drop_at text (drop end old);
    }

-- a copy of a text to the place
pub copied : (old text part : List ℕ) (at : ℕ) → at ≤ length old → length text ≤ length old - at → part ≡ text → Written old at (put_mid at (at + length text - at) old part) (at + length text) text
copied old text part at le fits e =
    let long : length part ≡ at + length text - at = ap length e ∙ omega arith in
    let end : at + length text ≤ length old = omega arith in
    record {
      long = same_len_mid at (at + length text - at) old part (long ∙ sym (mid_len at (at + length text) old end));
      within = end;
      written = take-put_mid at (at + length text - at) old part (at + length text) (omega (arith, ap length e)) le ∙ ap (λ (t : List ℕ). take at old ++ t) e;
      behind = drop-put_mid at (at + length text - at) old part (at + length text) (omega arith) le long;
    }
