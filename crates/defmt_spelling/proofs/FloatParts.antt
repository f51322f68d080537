-- The parts of a float's text: they are digits, and what they stand for is the float.
use Rattle.std.proofs.Common.{◌≡◌, ℕ, zero, suc, ◌+◌, ◌-◌, ◌*◌, ◌^◌, ◌<◌, ◌≤◌, Bool, true, false, cond, List, [], ◌∷◌, ◌++◌, length, take, drop, codes, refl, sym, ap, ◌∙◌, subst, arith, inl, inr, append_assoc, append-nil, length-append, length-take, length-drop, pow-add, true≢false}
use Rattle.std.proofs.lemmas.Bool.{cases_lt, lt-ltb}
use Rattle.std.proofs.lemmas.Fmt.{decimal_is_IsNumeral}
use Rattle.std.proofs.lemmas.List.{take-append-drop}
use Rattle.std.specs.Float.Numeral.{Parts, text_of, IsWellFormed, numeral_digits, tens_up, tens_down, nearest_float}
use Rattle.std.specs.Fmt.{decimal, sign_text}
use Rattle.std.specs.Str.Parse.{AllDigits, digits_value}
use lib.Ieee.{Format, to_bits}
use lib.Ieee.Scale.{round_same}
use Rattle.fast_float.proofs.ExactLemmas.{ten_to_pos}
use Rattle.core.proofs.dec2flt.DigitsLemmas.{digits_value-append}
use Rattle.defmt_floats.specs.Layout.{zeros, whole_digits, leading_zeros, pointed, others, scientific, laid_out}
use Rattle.defmt_floats.specs.Shortest.{tens}
use Rattle.defmt_floats.proofs.Places.{few_tens}
use Rattle.defmt_floats.proofs.TextLaws.{pointed_within, pointed_behind, scientific_is, laid_pointed, laid_great, laid_behind, laid_small}
use Rattle.defmt_shapes.specs.Shape.{AreDigits, IsSign, IsScaled}
use Rattle.defmt_spelling.proofs.FloatDigits.{IsNearest}

-- a text without a sign that reads back as the float
pub record ReadsBack (f : Format) (bits : ℕ) (text : List ℕ) : Type 0 where
  pub parts : Parts
  pub well : IsWellFormed parts
  pub some : 0 < length parts.whole
  pub text_is : text ≡ text_of parts
  pub scaled : IsScaled text
  pub value : to_bits f (nearest_float f false parts) ≡ bits

-- ---- digits

take_digits : (n : ℕ) (ds : List ℕ) → AllDigits 10 ds → AllDigits 10 (take n ds)
take_digits zero ds h = tt
take_digits (suc n) [] h = tt
take_digits (suc n) (d ∷ ds) h = (h.0, take_digits n ds h.1)

drop_digits : (n : ℕ) (ds : List ℕ) → AllDigits 10 ds → AllDigits 10 (drop n ds)
drop_digits zero ds h = h
drop_digits (suc n) [] h = tt
drop_digits (suc n) (d ∷ ds) h = drop_digits n ds h.1

join_digits : (xs ys : List ℕ) → AllDigits 10 xs → AllDigits 10 ys → AllDigits 10 (xs ++ ys)
join_digits [] ys h k = k
join_digits (x ∷ xs) ys h k = (h.0, join_digits xs ys h.1 k)

zero_digits : (k : ℕ) → AllDigits 10 (zeros k)
zero_digits zero = tt
zero_digits (suc k) = (omega arith, zero_digits k)

zeros_value : (k : ℕ) → digits_value 10 (zeros k) ≡ 0
zeros_value zero = refl
zeros_value (suc k) = zeros_value k

zeros_length : (k : ℕ) → length (zeros k) ≡ k
zeros_length zero = refl
zeros_length (suc k) = ap suc (zeros_length k)

behind_zeros : (k : ℕ) (ds : List ℕ) → digits_value 10 (zeros k ++ ds) ≡ digits_value 10 ds
behind_zeros zero ds = refl
behind_zeros (suc k) ds = behind_zeros k ds

-- ---- parts

module _ (f : Format) (bits d i : ℕ) (near : IsNearest f bits d i) where
  parts_near : (p : Parts) → numeral_digits p * 10 ^ tens_up p * 10 ^ (i - tens f) ≡ d * 10 ^ (tens f - i) * 10 ^ tens_down p → to_bits f (nearest_float f false p) ≡ bits
  parts_near p cross =
      ap (to_bits f) (round_same f false (numeral_digits p * 10 ^ tens_up p) (10 ^ tens_down p) (d * 10 ^ (tens f - i)) (10 ^ (i - tens f)) (ten_to_pos (tens_down p)) (ten_to_pos (i - tens f)) cross) ∙ near

  -- digits, a point and digits
  fixed : (whole fraction : List ℕ) → AreDigits whole → AreDigits fraction → digits_value 10 (whole ++ fraction) * 10 ^ (i - tens f) ≡ d * 10 ^ (tens f - i) * 10 ^ length fraction → ReadsBack f bits (whole ++ 46 ∷ fraction)
  fixed whole fraction w k cross =
      let none : length fraction + 0 ≡ length fraction = omega arith in
      record {
        parts = record { whole = whole; point = true; fraction = fraction; exponent_negative = false; exponent = []; len = length (whole ++ ((46 ∷ fraction) ++ [])) };
        well = record { whole_digits = w.1; fraction_digits = k.1; exponent_digits = tt; no_point = λ e. absurd (true≢false e); no_exponent = λ e. refl; len_is = refl };
        some = w.0;
        text_is = ap (λ (t : List ℕ). whole ++ t) (sym (append-nil (46 ∷ fraction)));
        scaled = (whole, 46 ∷ fraction, w, inl (fraction, k, refl), refl);
        value = parts_near (record { whole = whole; point = true; fraction = fraction; exponent_negative = false; exponent = []; len = length (whole ++ ((46 ∷ fraction) ++ [])) }) (rw none (omega (arith, cross)));
      }

  sign_is : (b : Bool) → IsSign (sign_text b)
  sign_is true = inr (inl refl)
  sign_is false = inl refl

  -- a digit, a point and digits where there are any, and an exponent
  scaled_by : (c : ℕ) (more : List ℕ) (b : Bool) (e : ℕ) (es : List ℕ) → AreDigits (c ∷ more) → AllDigits 10 (e ∷ es)
      → digits_value 10 (c ∷ more) * 10 ^ cond b 0 (digits_value 10 (e ∷ es)) * 10 ^ (i - tens f) ≡ d * 10 ^ (tens f - i) * 10 ^ (length more + cond b (digits_value 10 (e ∷ es)) 0)
      → ReadsBack f bits (take 1 (c ∷ more) ++ others (c ∷ more) ++ codes "e" ++ (sign_text b ++ e ∷ es))
  scaled_by c [] b e es w x cross = record {
    parts = record { whole = c ∷ []; point = false; fraction = []; exponent_negative = b; exponent = e ∷ es; len = length (c ∷ 101 ∷ (sign_text b ++ e ∷ es)) };
    well = record { whole_digits = w.1; fraction_digits = tt; exponent_digits = x; no_point = λ p. refl; no_exponent = λ p. absurd cc; len_is = refl };
    some = omega arith;
    text_is = refl;
    scaled = (c ∷ [], 101 ∷ (sign_text b ++ e ∷ es), w, inr (inl (sign_text b, e ∷ es, sign_is b, (omega arith, x), refl)), refl);
    value = parts_near (record { whole = c ∷ []; point = false; fraction = []; exponent_negative = b; exponent = e ∷ es; len = length (c ∷ 101 ∷ (sign_text b ++ e ∷ es)) }) cross;
  }
  scaled_by c (r ∷ rs) b e es w x cross =
      let exponent : List ℕ = 101 ∷ (sign_text b ++ e ∷ es) in
      let p : Parts = record { whole = c ∷ []; point = true; fraction = r ∷ rs; exponent_negative = b; exponent = e ∷ es; len = length (c ∷ 46 ∷ r ∷ (rs ++ exponent)) } in
      let whole : List ℕ = c ∷ 46 ∷ r ∷ (rs ++ exponent) in
      let there : ReadsBack f bits whole = record {
        parts = p;
        well = record { whole_digits = (w.1.0, tt); fraction_digits = w.1.1; exponent_digits = x; no_point = λ q. absurd (true≢false q); no_exponent = λ q. absurd cc; len_is = refl };
        some = omega arith;
        text_is = refl;
        scaled = (c ∷ [], (46 ∷ r ∷ rs) ++ exponent, (omega arith, (w.1.0, tt)), inr (inr (46 ∷ r ∷ rs, exponent, (r ∷ rs, (omega arith, w.1.1), refl), (sign_text b, e ∷ es, sign_is b, (omega arith, x), refl), refl)), refl);
        value = parts_near p cross;
      } in
      rw (lt-ltb 1 (length (c ∷ r ∷ rs)) (omega arith)) (subst (ReadsBack f bits) (ap (λ (t : List ℕ). c ∷ 46 ∷ r ∷ t) (sym (append_assoc rs (101 ∷ []) (sign_text b ++ e ∷ es)))) there)

  -- ---- the layout

  module _ (ds : List ℕ) (are : AreDigits ds) (value : digits_value 10 ds ≡ d) where
    within : (n : ℕ) → 0 < n → n < length ds → n ≡ length ds + tens f - i → i < length ds + tens f → ReadsBack f bits (pointed ds n)
    within n some short e low =
        let size = length-drop n ds in
        let front = length-take n ds in
        let k : i - tens f ≡ length (drop n ds) = omega (arith, e, size) in
        let z : tens f - i ≡ 0 = omega (arith, e) in
        subst (ReadsBack f bits) (sym (append_assoc (take n ds) (46 ∷ []) (drop n ds)) ∙ pointed_within ds n short)
        (fixed (take n ds) (drop n ds) (omega (arith, front), take_digits n ds are.1) (omega (arith, size), drop_digits n ds are.1)
        (rw (take-append-drop n ds, value, k, z) (omega arith)))

    behind : (n : ℕ) → length ds ≤ n → n ≡ length ds + tens f - i → i < length ds + tens f → ReadsBack f bits (pointed ds n)
    behind n long e low =
        let k = n - length ds in
        let z : tens f - i ≡ k = omega (arith, e) in
        let none : i - tens f ≡ 0 = omega (arith, e, long) in
        let some : 0 < length ds = are.0 in
        let whole : digits_value 10 (ds ++ zeros k) ≡ d * 10 ^ k = digits_value-append ds (zeros k) ∙ omega (arith, value, zeros_value k, ap (λ (x : ℕ). digits_value 10 ds * 10 ^ x) (zeros_length k), ap (λ (x : ℕ). x * 10 ^ k) value) in
        let all : digits_value 10 ((ds ++ zeros k) ++ 48 ∷ []) ≡ d * 10 ^ k * 10 = digits_value-append (ds ++ zeros k) (48 ∷ []) ∙ omega (arith, whole) in
        subst (ReadsBack f bits) (pointed_behind ds n long)
        (fixed (ds ++ zeros k) (48 ∷ []) (omega (arith, length-append ds (zeros k)), join_digits ds (zeros k) are.1 (zero_digits k)) (omega arith, (omega arith, tt))
        (rw (all, z, none) (omega arith)))

    zeros_first : (n : ℕ) → n ≡ i - (length ds + tens f) → length ds + tens f ≤ i → ReadsBack f bits (codes "0." ++ zeros n ++ ds)
    zeros_first n e high =
        let some : 0 < length ds = are.0 in
        let size : length (zeros n ++ ds) ≡ n + length ds = length-append (zeros n) ds ∙ ap (λ (x : ℕ). x + length ds) (zeros_length n) in
        let k : i - tens f ≡ length (zeros n ++ ds) = omega (arith, e, size) in
        let z : tens f - i ≡ 0 = omega arith in
        let all : digits_value 10 ((48 ∷ []) ++ (zeros n ++ ds)) ≡ d = behind_zeros n ds ∙ value in
        fixed (48 ∷ []) (zeros n ++ ds) (omega arith, (omega arith, tt)) (omega (arith, size), join_digits (zeros n) ds (zero_digits n) are.1)
        (rw (all, k, z) (omega arith))

  exponent_of : (c : ℕ) (more : List ℕ) (b : Bool) (x : ℕ) (ds : List ℕ) → AreDigits (c ∷ more) → (0 < length ds) × AllDigits 10 ds → digits_value 10 ds ≡ x
      → digits_value 10 (c ∷ more) * 10 ^ cond b 0 x * 10 ^ (i - tens f) ≡ d * 10 ^ (tens f - i) * 10 ^ (length more + cond b x 0)
      → ReadsBack f bits (scientific (c ∷ more) (sign_text b ++ ds))
  exponent_of c more b x [] w all e cross = absurd (let some : 0 < 0 = all.0 in omega arith)
  exponent_of c more b x (y ∷ ys) w all e cross =
      subst (ReadsBack f bits) (scientific_is (c ∷ more) (sign_text b ++ y ∷ ys))
      (scaled_by c more b y ys w all.1 (subst (λ (k : ℕ). digits_value 10 (c ∷ more) * 10 ^ cond b 0 k * 10 ^ (i - tens f) ≡ d * 10 ^ (tens f - i) * 10 ^ (length more + cond b k 0)) (sym e) cross))

  great : (ds : List ℕ) (n : ℕ) → AreDigits ds → digits_value 10 ds ≡ d → n ≡ length ds + tens f - i → i < length ds + tens f → n < 2 ^ 64 → ReadsBack f bits (scientific ds (decimal (n - 1)))
  great [] n are value e low small = absurd (let some : 0 < 0 = are.0 in omega arith)
  great (c ∷ more) n are value e low small =
      let x = decimal_is_IsNumeral (n - 1) (omega (arith, small)) in
      exponent_of c more false (n - 1) (decimal (n - 1)) are x.0 x.1
      (elim (cases_lt (tens f) i) [
        | inl lt ↦ (
            let z : tens f - i ≡ 0 = omega arith in
            let k : length more + 0 ≡ (n - 1) + (i - tens f) = omega (arith, e) in
            rw (value, z, k, pow-add 10 (n - 1) (i - tens f)) (omega arith))
        | inr le ↦ (
            let z : i - tens f ≡ 0 = omega arith in
            let k : n - 1 ≡ (tens f - i) + (length more + 0) = omega (arith, e) in
            rw (value, z, k, pow-add 10 (tens f - i) (length more + 0)) (omega arith))
      ])

  small : (ds : List ℕ) (n : ℕ) → AreDigits ds → digits_value 10 ds ≡ d → n ≡ i - (length ds + tens f) → length ds + tens f ≤ i → n + 1 < 2 ^ 64 → ReadsBack f bits (scientific ds (codes "-" ++ decimal (n + 1)))
  small [] n are value e high fits = absurd (let some : 0 < 0 = are.0 in omega arith)
  small (c ∷ more) n are value e high fits =
      let x = decimal_is_IsNumeral (n + 1) fits in
      let z : tens f - i ≡ 0 = omega arith in
      let k : length more + (n + 1) ≡ i - tens f = omega (arith, e) in
      exponent_of c more true (n + 1) (decimal (n + 1)) are x.0 x.1 (rw (value, z, k) (omega arith))

  pub laid_back : (ds : List ℕ) → AreDigits ds → digits_value 10 ds ≡ d → length ds ≤ 20 → i ≤ 716 → ReadsBack f bits (laid_out f ds i)
  laid_back ds are value short low =
      let t = few_tens f in
      elim (cases_lt i (length ds + tens f)) [
        | inl a ↦ (
            let n = length ds + tens f - i in
            elim (cases_lt (whole_digits f) n) [
              | inl b ↦ subst (ReadsBack f bits) (laid_great f ds i n a refl b) (great ds n are value refl a (omega (arith, short, t.1)))
              | inr b ↦ subst (ReadsBack f bits) (laid_pointed f ds i n a refl b) (elim (cases_lt n (length ds)) [
                | inl c ↦ within ds are value n (omega arith) c refl a
                | inr c ↦ behind ds are value n c refl a
              ])
            ])
        | inr a ↦ (
            let n = i - (length ds + tens f) in
            elim (cases_lt (leading_zeros f) n) [
              | inl b ↦ subst (ReadsBack f bits) (laid_small f ds i n a refl b) (small ds n are value refl a (omega (arith, low)))
              | inr b ↦ subst (ReadsBack f bits) (laid_behind f ds i n a refl b) (zeros_first ds are value n refl a)
            ])
      ]
