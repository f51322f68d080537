-- Digits written from the last to the first.
use Rattle.std.proofs.Common.{◌≡◌, ◌<◌, ◌≤◌, ◌+◌, ◌-◌, ◌/◌, ◌%◌, ◌^◌, ℕ, max, Bool, true, false, eqb, List, [], ◌∷◌, ◌++◌, length, map, set, take, drop, refl, sym, ap, subst, ◌∙◌, arith, append_assoc, length-append, length-set}
use Rattle.std.proofs.lemmas.Bool.{eqb-true}
use Rattle.std.proofs.lemmas.Grind.{replicate_next}
use Rattle.std.proofs.lemmas.Int.Digits.{digits_of_step, length-digits_of_step, length-digits_of-le}
use Rattle.std.proofs.lemmas.List.{append-nil, length-map, length-replicate, map_push, drop-set, take-set}
use Rattle.std.proofs.Math.Nat.{pow-le-pow_left, div-eq_of_lt, mod-eq_of_lt}
use Rattle.std.specs.Fmt.{digit_glyph}
use Rattle.std.specs.Int.Digits.{digits_of}
use Rattle.std.specs.Prelude.{replicate}
use Rattle.defmt_hints.specs.Digits.{number_text, zero_filled}
use Rattle.defmt_hints.proofs.DigitsLaws.{above_zero, number_text_zero, number_text_some}
use Rattle.defmt_hints.proofs.Places.{written_here}
use Rattle.defmt_hints.proofs.Chains.{take_less}
use Rattle.defmt_hints.specs.Written.{Written}

pub few_digits : (base n : ℕ) → 2 ≤ base → n < 2 ^ 128 → length (digits_of base n) ≤ 128
few_digits base n two lt = let k : 2 ^ 128 ≤ base ^ 128 = pow-le-pow_left two 128 in length-digits_of-le base 128 n two (omega (arith, k, lt))

-- the digits with zeros in front, so many in all
abbrev pub padded : ℕ → Bool → ℕ → ℕ → List ℕ
padded base upper k n = replicate (k - length (digits_of base n)) 48 ++ map (digit_glyph upper) (digits_of base n)

zero_glyph : (upper : Bool) → digit_glyph upper 0 ≡ 48
zero_glyph true = refl
zero_glyph false = refl

no_digits : (base : ℕ) → digits_of base 0 ≡ []
no_digits base = refl

padded_zero : (base : ℕ) (upper : Bool) (k : ℕ) → padded base upper k 0 ≡ replicate k 48
padded_zero base upper k =
    let e : k - length (digits_of base 0) ≡ k = omega (arith, ap length (no_digits base)) in
    ap (λ (m : ℕ). replicate m 48 ++ []) e ∙ append-nil (replicate k 48)

last_zero : (base : ℕ) (upper : Bool) (k n : ℕ) → n ≡ 0 → 0 < base → padded base upper (k + 1) n ≡ padded base upper k (n / base) ++ digit_glyph upper (n % base) ∷ []
last_zero base upper k n e some =
    let less : n < base = omega (arith, e, some) in
    let q : n / base ≡ 0 = div-eq_of_lt less in
    let r : n % base ≡ 0 = mod-eq_of_lt less ∙ e in
    let zeros : List ℕ = replicate k 48 in
    ap (λ (m : ℕ). padded base upper (k + 1) m) e ∙ padded_zero base upper (k + 1) ∙ replicate_next k 48
    ∙ ap (λ (t : List ℕ). t ++ 48 ∷ []) (sym (ap (λ (m : ℕ). padded base upper k m) q ∙ padded_zero base upper k))
    ∙ ap (λ (c : ℕ). padded base upper k (n / base) ++ c ∷ []) (sym (ap (λ (m : ℕ). digit_glyph upper m) r ∙ zero_glyph upper))

last_some : (base : ℕ) (upper : Bool) (k n : ℕ) → 0 < n → 2 ≤ base → length (digits_of base n) ≤ k + 1 → padded base upper (k + 1) n ≡ padded base upper k (n / base) ++ digit_glyph upper (n % base) ∷ []
last_some base upper k n some two le =
    let step : digits_of base n ≡ digits_of base (n / base) ++ n % base ∷ [] = digits_of_step base n two some in
    let size : length (digits_of base n) ≡ length (digits_of base (n / base)) + 1 = length-digits_of_step base n two some in
    let zeros : k + 1 - length (digits_of base n) ≡ k - length (digits_of base (n / base)) = omega (arith, size) in
    ap (λ (m : ℕ). replicate m 48 ++ map (digit_glyph upper) (digits_of base n)) zeros
    ∙ ap (λ (ds : List ℕ). replicate (k - length (digits_of base (n / base))) 48 ++ map (digit_glyph upper) ds) step
    ∙ ap (λ (t : List ℕ). replicate (k - length (digits_of base (n / base))) 48 ++ t) (map_push (digit_glyph upper) (digits_of base (n / base)) (n % base))
    ∙ sym (append_assoc (replicate (k - length (digits_of base (n / base))) 48) (map (digit_glyph upper) (digits_of base (n / base))) (digit_glyph upper (n % base) ∷ []))

last_by : (base : ℕ) (upper : Bool) (k n : ℕ) (b : Bool) → eqb n 0 ≡ b → 2 ≤ base → length (digits_of base n) ≤ k + 1 → padded base upper (k + 1) n ≡ padded base upper k (n / base) ++ digit_glyph upper (n % base) ∷ []
last_by base upper k n true e two le = last_zero base upper k n (eqb-true n 0 e) (omega arith)
last_by base upper k n false e two le = last_some base upper k n (above_zero n e) two le

fewer_by : (base k n : ℕ) (b : Bool) → eqb n 0 ≡ b → 2 ≤ base → length (digits_of base n) ≤ k + 1 → length (digits_of base (n / base)) ≤ k
fewer_by base k n true e two le =
    let q : n / base ≡ 0 = div-eq_of_lt (omega (arith, eqb-true n 0 e, two)) in
    omega (arith, ap (λ (m : ℕ). length (digits_of base m)) q, ap length (no_digits base))
fewer_by base k n false e two le = omega (arith, length-digits_of_step base n two (above_zero n e), le)

-- what is written from a place on, with what is still to come in front of it
pub record Filling (base : ℕ) (upper : Bool) (number : ℕ) (old : List ℕ) (at end place rest : ℕ) (out : List ℕ) : Type 0 where
  pub tail : List ℕ
  pub long : length out ≡ length old
  pub from : at ≤ place
  pub to : place ≤ end
  pub size : place + length tail ≡ end
  pub front : take place out ≡ take place old
  pub done : drop place out ≡ tail ++ drop end old
  pub room : length (digits_of base rest) ≤ place - at
  pub whole : padded base upper (end - at) number ≡ padded base upper (place - at) rest ++ tail

-- there is a place for a digit that is to come
pub filling_room : (base : ℕ) (upper : Bool) (number : ℕ) (old : List ℕ) (at end place rest : ℕ) (out : List ℕ) → Filling base upper number old at end place rest out → 2 ≤ base → 0 < rest → at < place
filling_room base upper number old at end place rest out h two some = omega (arith, h.room, h.from, length-digits_of_step base rest two some)

pub filling_none : (base : ℕ) (upper : Bool) (number : ℕ) (old : List ℕ) (at end : ℕ) → at ≤ end → length (digits_of base number) ≤ end - at → Filling base upper number old at end end number old
filling_none base upper number old at end le room = record {
  tail = [];
  long = refl;
  from = le;
  to = omega arith;
  size = omega arith;
  front = refl;
  done = refl;
  room = room;
  whole = sym (append-nil (padded base upper (end - at) number));
}

pub filling_more : (base : ℕ) (upper : Bool) (number : ℕ) (old : List ℕ) (at end place rest : ℕ) (out : List ℕ) (before g : ℕ) → Filling base upper number old at end place rest out → 2 ≤ base → end ≤ length old → at < place → before + 1 ≡ place → g ≡ digit_glyph upper (rest % base) → Filling base upper number old at end before (rest / base) (set out before g)
filling_more base upper number old at end place rest out before g h two most lt e glyph =
    let inside : before < length out = omega (arith, h.long, h.to, e) in
    let k : ℕ = before - at in
    let places : place - at ≡ before - at + 1 = omega (arith, e, lt) in
    let step : padded base upper (before - at + 1) rest ≡ padded base upper (before - at) (rest / base) ++ digit_glyph upper (rest % base) ∷ [] = last_by base upper (before - at) rest (eqb rest 0) refl two (omega (arith, h.room, places)) in
    record {
      tail = g ∷ h.tail;
      long = length-set out before g ∙ h.long;
      from = omega arith;
      to = omega (arith, h.to, e);
      size = omega (arith, h.size, e);
      front = take-set out before g ∙ sym (take_less before place out (omega arith)) ∙ ap (λ (t : List ℕ). take before t) h.front ∙ take_less before place old (omega arith);
      done = drop-set out before g inside ∙ ap (λ (n : ℕ). g ∷ drop n out) e ∙ ap (λ (t : List ℕ). g ∷ t) h.done;
      room = fewer_by base (before - at) rest (eqb rest 0) refl two (omega (arith, h.room, places));
      whole = h.whole ∙ ap (λ (m : ℕ). padded base upper m rest ++ h.tail) places ∙ ap (λ (t : List ℕ). t ++ h.tail) step
          ∙ append_assoc (padded base upper (before - at) (rest / base)) (digit_glyph upper (rest % base) ∷ []) h.tail
          ∙ ap (λ (c : ℕ). padded base upper (before - at) (rest / base) ++ c ∷ h.tail) (sym glyph);
    }

empty_list : (xs : List ℕ) → length xs ≡ 0 → xs ≡ []
empty_list [] e = refl
empty_list (x ∷ xs) e = absurd (omega (arith, e))

-- all digits
padded_text : (base : ℕ) (upper : Bool) (number width long : ℕ) (b : Bool) → eqb number 0 ≡ b → 2 ≤ base → long ≡ max (length (digits_of base number)) (max width 1) → padded base upper long number ≡ zero_filled width (number_text base upper number)
unfolding zero_filled
padded_text base upper number width long true e two size =
    let is : number ≡ 0 = eqb-true number 0 e in
    let none : digits_of base number ≡ [] = ap (digits_of base) is in
    let all : long ≡ width - 1 + 1 = omega (arith, size, ap length none) in
    ap (λ (n : ℕ). padded base upper long n) is ∙ padded_zero base upper long ∙ ap (λ (m : ℕ). replicate m 48) all ∙ replicate_next (width - 1) 48
    ∙ sym (ap (λ (t : List ℕ). replicate (width - length t) 48 ++ t) (ap (number_text base upper) is ∙ number_text_zero base upper))
padded_text base upper number width long false e two size =
    let some : 0 < number = above_zero number e in
    let one : length (digits_of base number) ≡ length (digits_of base (number / base)) + 1 = length-digits_of_step base number two some in
    let text : number_text base upper number ≡ map (digit_glyph upper) (digits_of base number) = number_text_some base number upper some in
    let zeros : long - length (digits_of base number) ≡ width - length (map (digit_glyph upper) (digits_of base number)) = omega (arith, size, one, length-map (digits_of base number) (digit_glyph upper)) in
    ap (λ (m : ℕ). replicate m 48 ++ map (digit_glyph upper) (digits_of base number)) zeros
    ∙ sym (ap (λ (t : List ℕ). replicate (width - length t) 48 ++ t) text)

pub filling_all : (base : ℕ) (upper : Bool) (number width : ℕ) (old : List ℕ) (at end place rest : ℕ) (out : List ℕ) → Filling base upper number old at end place rest out → 2 ≤ base → at ≤ length old → end ≤ length old → place ≤ at → end ≡ at + max (length (digits_of base number)) (max width 1) → Written old at out end (zero_filled width (number_text base upper number))
filling_all base upper number width old at end place rest out h two le most over e =
    let here : place ≡ at = omega (arith, h.from, over) in
    let none : digits_of base rest ≡ [] = empty_list (digits_of base rest) (omega (arith, h.room, here)) in
    let nothing : padded base upper (place - at) rest ≡ [] = ap (λ (m : ℕ). replicate (m - length (digits_of base rest)) 48 ++ map (digit_glyph upper) (digits_of base rest)) (omega (arith, here)) ∙ ap (λ (ds : List ℕ). replicate (0 - length ds) 48 ++ map (digit_glyph upper) ds) none in
    let tail_is : padded base upper (end - at) number ≡ h.tail = h.whole ∙ ap (λ (t : List ℕ). t ++ h.tail) nothing in
    let text : h.tail ≡ zero_filled width (number_text base upper number) = sym tail_is ∙ padded_text base upper number width (end - at) (eqb number 0) refl two (omega (arith, e)) in
    let ends : at + length h.tail ≡ end = omega (arith, h.size, here) in
    subst (λ (t : List ℕ). Written old at out end t) text (written_here old out h.tail at place end le most h.long ends h.size h.done h.front)

-- how long they are
pub filled_size : (base : ℕ) (upper : Bool) (number width long : ℕ) → 2 ≤ base → long ≡ max (length (digits_of base number)) (max width 1) → length (zero_filled width (number_text base upper number)) ≡ long
filled_size base upper number width long two size =
    let zeros : List ℕ = replicate (long - length (digits_of base number)) 48 in
    omega (
      arith,
      size,
      ap length (padded_text base upper number width long (eqb number 0) refl two size),
      length-append zeros (map (digit_glyph upper) (digits_of base number)),
      length-replicate {A = ℕ} (long - length (digits_of base number)) 48,
      length-map (digits_of base number) (digit_glyph upper),
    )
