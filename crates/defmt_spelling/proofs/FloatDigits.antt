-- The digits of a float: how many there are, and where the last stands.
use Rattle.std.proofs.Common.{◌≡◌, ℕ, zero, suc, ◌+◌, ◌-◌, ◌*◌, ◌/◌, ◌%◌, ◌^◌, ◌<◌, ◌≤◌, Bool, true, false, ◌&&◌, ltb, refl, sym, ap, ◌∙◌, arith, inl, inr, lit<, lit≤, div-lt_iff_lt-mul, pow-add, mul-lt-mul_of_pos_right}
use Rattle.std.proofs.lemmas.Bool.{cases_Bool, cases_eq, cases_lt, eqb-true, lt-ltb, both_ways}
use Rattle.std.specs.Fmt.{decimal}
use native.Mathlib.Nat.{div-eq_of_lt}
use Rattle.std.proofs.Math.Nat.{pow-le-pow_right}
use lib.Ieee.{Format, hid, ones, round, to_bits}
use lib.Ieee.Scale.{round_same}
use Rattle.fast_float.proofs.ExactLemmas.{ten_to_pos}
use Rattle.defmt_floats.specs.Layout.{laid_out, number_text}
use Rattle.defmt_floats.specs.Shortest.{tens, most_digits, numerator, denominator, below, reads_back, is_found, first_from, first_place, last_place, is_above_nearer, digits}
use Rattle.defmt_floats.proofs.Bounds.{size, size_bounds}
use Rattle.defmt_floats.proofs.Enough.{digits_read}
use Rattle.defmt_floats.proofs.Places.{denominator_pos, few_digits, first_fails, numerator_step}
use Rattle.defmt_floats.proofs.TextLaws.{number_ten, number_other}

-- ---- the first place that passes a test

first_least : (test : ℕ → Bool) (i count : ℕ) → i ≤ first_from test i count
unfolding first_from
first_least test i zero = omega arith
first_least test i (suc count) = elim (cases_Bool (test i)) [
  | inl t ↦ rw t (omega arith)
  | inr f ↦ rw f (let k = first_least test (i + 1) count in omega (arith, k))
]

first_most : (test : ℕ → Bool) (i count : ℕ) → first_from test i count ≤ i + count
unfolding first_from
first_most test i zero = omega arith
first_most test i (suc count) = elim (cases_Bool (test i)) [
  | inl t ↦ rw t (omega arith)
  | inr f ↦ rw f (let k = first_most test (i + 1) count in omega (arith, k))
]

first_before : (test : ℕ → Bool) (i count j : ℕ) → i ≤ j → j < first_from test i count → test j ≡ false
unfolding first_from
first_before test i zero j a b = absurd (omega arith)
first_before test i (suc count) j a b = elim (cases_Bool (test i)) [
  | inl t ↦ absurd (let k : j < i = rw t at b in omega (arith, k))
  | inr f ↦ elim (cases_eq j i) [
    | inl e ↦ ap test e ∙ f
    | inr n ↦ first_before test (i + 1) count j (omega arith) (rw f at b)
  ]
]

module _ (f : Format) (bits : ℕ) (some : 0 < bits) (finite : bits < ones f * hid f) where
  abbrev has_digit : ℕ → Bool
  has_digit i = ltb 0 (below f bits i)

  below_zero : below f bits 0 ≡ 0
  unfolding below numerator
  below_zero =
      let e : numerator f bits 0 ≡ size f bits = omega arith in
      ap (λ (n : ℕ). n / denominator f) e ∙ div-eq_of_lt (size_bounds f bits some finite).1

  first_above : 0 < first_place f bits
  unfolding first_place
  first_above =
      let k = first_fails has_digit 0 1 700 699 (ap (ltb 0) below_zero) refl refl in
      let l = first_least has_digit 1 699 in
      omega (arith, k, l)

  first_low : first_place f bits ≤ 700
  unfolding first_place
  first_low = let k = first_most has_digit 0 700 in omega (arith, k)

  none_before : (j : ℕ) → j < first_place f bits → below f bits j < 1
  unfolding first_place
  none_before j h =
      let t = first_before has_digit 0 700 j (omega arith) h in
      elim (cases_lt 0 (below f bits j)) [
        | inl lt ↦ absurd (both_ways (has_digit j) t (lt-ltb 0 (below f bits j) lt))
        | inr le ↦ omega arith
      ]

  -- in units of the first place that has a digit the float is below ten
  first_size : numerator f bits (first_place f bits) < 10 * denominator f
  unfolding below
  first_size =
      let q = first_place f bits - 1 in
      let up = first_above in
      let e : first_place f bits ≡ q + 1 = omega (arith, up) in
      let one : numerator f bits q < 1 * denominator f = (div-lt_iff_lt-mul (denominator_pos f)).0 (none_before q (omega (arith, e))) in
      let step = numerator_step f bits q 1 in
      let there : numerator f bits (first_place f bits) ≡ numerator f bits q * 10 ^ 1 = ap (numerator f bits) e ∙ step in
      omega (arith, one, there)

  below_digits : (s : ℕ) → below f bits (first_place f bits + s) < 10 * 10 ^ s
  unfolding below
  below_digits s =
      let more = mul-lt-mul_of_pos_right first_size (ten_to_pos s) in
      (div-lt_iff_lt-mul (denominator_pos f)).1 (omega (arith, numerator_step f bits (first_place f bits) s, more))

  last_least : first_place f bits ≤ last_place f bits
  unfolding last_place
  last_least = first_least (is_found f bits) (first_place f bits) (most_digits f - 1)

  last_most : last_place f bits ≤ first_place f bits + 16
  unfolding last_place
  last_most =
      let k = first_most (is_found f bits) (first_place f bits) (most_digits f - 1) in
      let m = few_digits f in
      omega (arith, k, m.1)

  digits_most : digits f bits ≤ below f bits (last_place f bits) + 1
  unfolding digits
  digits_most = elim (cases_Bool (reads_back f bits (below f bits (last_place f bits)) (last_place f bits))) [
    | inl t ↦ elim (cases_Bool (reads_back f bits (below f bits (last_place f bits) + 1) (last_place f bits) && is_above_nearer f bits (last_place f bits))) [
      | inl u ↦ rw (t, u) (omega arith)
      | inr u ↦ rw (t, u) (omega arith)
    ]
    | inr t ↦ rw t (omega arith)
  ]

  digits_small : digits f bits < 2 ^ 64
  digits_small =
      let s = last_place f bits - first_place f bits in
      let least = last_least in
      let most = last_most in
      let e : last_place f bits ≡ first_place f bits + s = omega (arith, least) in
      let sixteen : s ≤ 16 = omega (arith, most) in
      let few : 10 ^ s ≤ 10 ^ 16 = pow-le-pow_right (lit< tt) sixteen in
      let low = below_digits s in
      let there : below f bits (last_place f bits) ≡ below f bits (first_place f bits + s) = ap (below f bits) e in
      let top = digits_most in
      let fits : 10 * 10 ^ 16 + 1 ≤ 2 ^ 64 = lit≤ tt in
      omega (arith, few, low, there, top, fits)

-- ---- the digits that are written

-- the float is the one nearest to d, the last digit of which stands at place i
abbrev pub IsNearest : Format → ℕ → ℕ → ℕ → Type 0
IsNearest f bits d i = to_bits f (round f false (d * 10 ^ (tens f - i)) (10 ^ (i - tens f))) ≡ bits

pub record Written (f : Format) (bits : ℕ) : Type 0 where
  pub d : ℕ
  pub i : ℕ
  pub small : d < 2 ^ 64
  pub low : i ≤ 716
  pub text : laid_out f (decimal d) i ≡ number_text f bits
  pub nearest : IsNearest f bits d i

-- one digit less, at the place before
shifted : (q i t : ℕ) → 0 < i → q * 10 ^ (t - (i - 1)) * 10 ^ (i - t) ≡ q * 10 * 10 ^ (t - i) * 10 ^ (i - 1 - t)
shifted q i t h = elim (cases_lt t i) [
  | inl lt ↦ (
      let a : t - (i - 1) ≡ 0 = omega arith in
      let b : t - i ≡ 0 = omega arith in
      let c : i - t ≡ (i - 1 - t) + 1 = omega arith in
      rw (a, b, c, pow-add 10 (i - 1 - t) 1) (omega arith))
  | inr le ↦ (
      let a : t - (i - 1) ≡ (t - i) + 1 = omega arith in
      let b : i - t ≡ 0 = omega arith in
      let c : i - 1 - t ≡ 0 = omega arith in
      rw (a, b, c, pow-add 10 (t - i) 1) (omega arith))
]

ten_less : (f : Format) (bits d q i : ℕ) → d ≡ q * 10 → 0 < i → IsNearest f bits d i → IsNearest f bits q (i - 1)
ten_less f bits d q i e h n =
    ap (to_bits f)
    (round_same f false (q * 10 ^ (tens f - (i - 1))) (10 ^ (i - 1 - tens f)) (q * 10 * 10 ^ (tens f - i)) (10 ^ (i - tens f)) (ten_to_pos (i - 1 - tens f)) (ten_to_pos (i - tens f)) (shifted q i (tens f) h))
    ∙ ap (λ (x : ℕ). to_bits f (round f false (x * 10 ^ (tens f - i)) (10 ^ (i - tens f)))) (sym e) ∙ n

reads : (f : Format) (bits d i : ℕ) → reads_back f bits d i ≡ true → IsNearest f bits d i
unfolding reads_back
reads f bits d i h = eqb-true _ bits h

pub written : (f : Format) (bits : ℕ) → 0 < bits → bits < ones f * hid f → Written f bits
written f bits some finite =
    let d = digits f bits in
    let i = last_place f bits in
    let n = reads f bits d i (digits_read f bits some finite) in
    let small = digits_small f bits some finite in
    let above = first_above f bits some finite in
    let least = last_least f bits some finite in
    let most = last_most f bits some finite in
    let low = first_low f bits some finite in
    elim (cases_eq (d % 10) 0) [
      | inl ten ↦ (
          let q = d / 10 in
          let e : d ≡ q * 10 = omega (arith, ten) in
          record {
            d = q;
            i = i - 1;
            small = omega (arith, small, e);
            low = omega (arith, most, low);
            text = number_ten f bits d i refl refl ten;
            nearest = ten_less f bits d q i e (omega (arith, above, least)) n;
          })
      | inr other ↦ record {
        d = d;
        i = i;
        small = small;
        low = omega (arith, most, low);
        text = number_other f bits d i refl refl other;
        nearest = n;
      }
    ]
