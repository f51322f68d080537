-- The decimals at a place, from the leading digits.
use Rattle.std.proofs.Common.{◌≡◌, ℕ, zero, suc, ◌+◌, ◌-◌, ◌*◌, ◌/◌, ◌%◌, ◌^◌, ◌<◌, ◌≤◌, Bool, true, false, not, cond, ◌&&◌, ◌||◌, T, eqb, ltb, nat_eq, to_bits, from_bits, refl, sym, ap, ◌∙◌, ap₂, subst, arith, mul_assoc, le-div_iff_mul-le, div-lt_iff_lt-mul, inl, inr, mul-pos, mul-le-mul_left, mul-le-mul_right, lt_of_mul-lt-mul_right, div-add-mod', mod-lt, pow_pos, pow-add, pow-suc, lt_of_lt_of_le}
use Rattle.std.proofs.lemmas.Bool.{cases_lt, cases_order, lt-ltb, le-ltb, eq-eqb, ne_eqb}
use native.Mathlib.Nat.{div-div-eq-div-mul, mul-div-mul_right, div-eq_of_lt, mod-eq_of_lt, pow-le-pow_right, eq_of_mul-eq-mul_right}
use lib.Ieee.{Format, binary32, binary64, low, hid, ones, top, round, is_nan}
use lib.Ieee.Bits.{to_bits-of_bits, nan_bits_is, nan_bits_above}
use Rattle.fast_float.specs.Rounding.{IsNearestBits}
use Rattle.fast_float.proofs.ExactLemmas.{ten_to_pos}
use Rattle.defmt_floats.specs.Leading.{IsLeading}
use Rattle.defmt_floats.specs.Shortest.{tens, most_digits, numerator, denominator, below, reads_back, first_from, first_place, last_place, is_above_nearer, is_found, digits}

-- ---- reading back

not_nan : (f : Format) (b : ℕ) → b ≤ ones f * hid f → (b < top f) × T (not (is_nan (from_bits f b)))
not_nan f b h =
    let least : 0 < hid f = pow_pos _ in
    let few : b < top f = omega arith in
    let clear : ltb (ones f * hid f) (b % top f) ≡ false = rw (mod-eq_of_lt few) (le-ltb _ _ h) in
    (few, subst (λ v. T (not v)) (sym (sym (nan_bits_is f b) ∙ nan_bits_above f b ∙ clear)) tt)

pub nearest_reads : (f : Format) (bits d i power b : ℕ) → power ≡ tens f + 342 - i → i ≤ tens f + 342 → IsNearestBits f (d * 10 ^ (power - 342)) (10 ^ (342 - power)) b → nat_eq b bits ≡ reads_back f bits d i
unfolding reads_back
nearest_reads f bits d i power b e h near =
    let n = not_nan f b near.1 in
    let up : power - 342 ≡ tens f - i = omega arith in
    let down : 342 - power ≡ i - tens f = omega arith in
    let round_is : from_bits f b ≡ round f false (d * 10 ^ (tens f - i)) (10 ^ (i - tens f)) = near.0 ∙ ap₂ (λ x y. round f false (d * 10 ^ x) (10 ^ y)) up down in
    ap (λ x. eqb x bits) (sym (to_bits-of_bits f b (omega arith) n.1) ∙ ap (to_bits f) round_is)

pub reads_true : (f : Format) (bits d i : ℕ) → bits < ones f * hid f → IsNearestBits f (d * 10 ^ (tens f - i)) (10 ^ (i - tens f)) bits → reads_back f bits d i ≡ true
unfolding reads_back
reads_true f bits d i h near =
    let n = not_nan f bits near.1 in
    eq-eqb _ bits (sym (sym (to_bits-of_bits f bits (omega arith) n.1) ∙ ap (to_bits f) near.0))

-- ---- the first place that passes a test

pub first_is : (test : ℕ → Bool) (i count n : ℕ) → i ≤ n → n ≤ i + count → test n ≡ true → ((j : ℕ) → i ≤ j → j < n → test j ≡ false) → first_from test i count ≡ n
unfolding first_from
first_is test i zero n a b passes before = omega arith
first_is test i (suc count) n a b passes before = elim (cases_lt i n) [
  | inl l ↦ rw (before i (omega arith) l) (first_is test (i + 1) count n (omega arith) (omega arith) passes (λ j p q. before j (omega arith) q))
  | inr g ↦ let e : i ≡ n = omega arith in rw (ap test e ∙ passes) e
]

pub first_none : (test : ℕ → Bool) (i : ℕ) → first_from test i 0 ≡ i
unfolding first_from
first_none test i = refl

pub first_passes : (test : ℕ → Bool) (i count : ℕ) → test i ≡ true → first_from test i count ≡ i
unfolding first_from
first_passes test i zero h = refl
first_passes test i (suc count) h = rw h refl

pub first_fails : (test : ℕ → Bool) (i j count less : ℕ) → test i ≡ false → j ≡ i + 1 → count ≡ suc less → first_from test i count ≡ first_from test j less
unfolding first_from
first_fails test i j count less h e s = rw (s, e, h) refl

-- ---- the decimal at a place is a front of the leading digits

pub denominator_pos : (f : Format) → 0 < denominator f
unfolding denominator
denominator_pos f = mul-pos (pow_pos (low f)) (ten_to_pos (tens f))

pub numerator_step : (f : Format) (bits i s : ℕ) → numerator f bits (i + s) ≡ numerator f bits i * 10 ^ s
unfolding numerator
numerator_step f bits i s = rw (pow-add 10 i s) (sym (mul_assoc _ _ _))

numerator_at : (f : Format) (bits place s : ℕ) → s ≤ place → numerator f bits place ≡ numerator f bits (place - s) * 10 ^ s
numerator_at f bits place s h =
    let e : place ≡ place - s + s = omega arith in
    ap (numerator f bits) e ∙ numerator_step f bits (place - s) s

pub front : (f : Format) (bits leading place : ℕ) (more : Bool) (s : ℕ) → IsLeading f bits leading place more → s ≤ place → leading / 10 ^ s ≡ below f bits (place - s)
unfolding below
front f bits leading place more s lead h =
    rw (lead.are, numerator_at f bits place s h) (div-div-eq-div-mul _ _ _ ∙ mul-div-mul_right _ _ (ten_to_pos s))

pub few_tens : (f : Format) → (39 ≤ tens f) × (tens f ≤ 309)
few_tens binary32 = omega arith
few_tens binary64 = omega arith

pub few_digits : (f : Format) → (9 ≤ most_digits f) × (most_digits f ≤ 17)
few_digits binary32 = omega arith
few_digits binary64 = omega arith

pub first_place_at : (f : Format) (bits leading place : ℕ) (more : Bool) → IsLeading f bits leading place more → first_place f bits ≡ place - 18
unfolding first_place
first_place_at f bits leading place more lead =
    let t = few_tens f in
    let sizes = lead.sizes in
    let range = lead.range in
    let one = front f bits leading place more 18 lead (omega arith) in
    let least : 0 < leading / 10 ^ 18 = omega arith in
    first_is (λ i. ltb 0 (below f bits i)) 0 700 (place - 18) (omega arith) (omega arith) (lt-ltb _ _ (rw one at least)) (λ j p q. le-ltb _ _ (none j q))
  where
    none : (j : ℕ) → j < place - 18 → below f bits j ≤ 0
    none j q =
        let range = lead.range in
        let back : place - (place - j) ≡ j = omega arith in
        let f0 = rw back at (front f bits leading place more (place - j) lead (omega arith)) in
        let far : 19 ≤ place - j = omega arith in
        let many : 10 ^ 19 ≤ 10 ^ (place - j) = pow-le-pow_right (omega arith) far in
        let zero_is : leading / 10 ^ (place - j) ≡ 0 = div-eq_of_lt (lt_of_lt_of_le lead.sizes.1 many) in
        omega arith

pub sizes_cut : (leading s : ℕ) → 10 ^ 18 ≤ leading → leading < 10 ^ 19 → 2 ≤ s → s ≤ 18 → (0 < leading / 10 ^ s) × (leading / 10 ^ s < 10 ^ 18)
sizes_cut leading s a b c d =
    let few : 10 ^ s ≤ 10 ^ 18 = pow-le-pow_right (omega arith) d in
    let many : 10 ^ 2 ≤ 10 ^ s = pow-le-pow_right (omega arith) c in
    let p = ten_to_pos s in
    ((le-div_iff_mul-le p).1 (omega arith), (div-lt_iff_lt-mul p).1 (omega (arith, mul-le-mul_left (10 ^ 18) many)))

pub few_cut : (f : Format) (leading s : ℕ) → 10 ^ 18 ≤ leading → leading < 10 ^ 19 → 19 - most_digits f ≤ s → s ≤ 18 → (0 < leading / 10 ^ s) × (leading / 10 ^ s + 1 ≤ 10 ^ most_digits f)
few_cut f leading s a b c d =
    let most = few_digits f in
    let all : 19 - s + s ≡ 19 = omega arith in
    let split : 10 ^ (19 - s) * 10 ^ s ≡ 10 ^ 19 = sym (pow-add 10 (19 - s) s) ∙ ap (λ x. 10 ^ x) all in
    let few : 19 - s ≤ most_digits f = omega arith in
    let many : 10 ^ (19 - s) ≤ 10 ^ most_digits f = pow-le-pow_right (omega arith) few in
    let less : leading / 10 ^ s < 10 ^ (19 - s) = (div-lt_iff_lt-mul (ten_to_pos s)).1 (omega (arith, split)) in
    ((sizes_cut leading s a b (omega arith) d).0, omega arith)

-- ---- which of the two is nearer

pub nearer : (D rho w h t r : ℕ) (odd : Bool) → r < D → w ≡ 2 * h → 0 < w → rho * w ≡ t * D + r
    → (ltb D (2 * rho) || (eqb (2 * rho) D && odd)) ≡ (ltb h t || (eqb t h && (ltb 0 r || odd)))
nearer D rho w h t r odd R W P E =
    let scaled : D * w ≡ 2 * (h * D) = omega (arith, ap (λ x. D * x) W) in
    let twice : 2 * rho * w ≡ 2 * (t * D) + 2 * r = omega arith in
    elim (cases_order t h) [
      | inl e ↦
          let same : t * D ≡ h * D = ap (λ x. x * D) e in
          elim (cases_lt 0 r) [
            | inl p ↦
                let l : D < 2 * rho = lt_of_mul-lt-mul_right w (omega arith) in
                rw (lt-ltb D (2 * rho) l, eq-eqb t h e, lt-ltb 0 r p, le-ltb h t (omega arith)) refl
            | inr z ↦
                let q : 2 * rho ≡ D = eq_of_mul-eq-mul_right w P _ _ (omega arith) in
                rw (le-ltb D (2 * rho) (omega arith), eq-eqb (2 * rho) D q, eq-eqb t h e, le-ltb 0 r z, le-ltb h t (omega arith)) refl
          ]
      | inr o ↦ elim o [
        | inl l ↦
            let k : t + 1 ≤ h = omega arith in
            let a : (t + 1) * D ≤ h * D = mul-le-mul_right D k in
            let b : 2 * rho < D = lt_of_mul-lt-mul_right w (omega arith) in
            rw (le-ltb D (2 * rho) (omega arith), ne_eqb (2 * rho) D (λ e. omega arith), ne_eqb t h (λ e. omega arith), le-ltb h t (omega arith)) refl
        | inr g ↦
            let k : h + 1 ≤ t = omega arith in
            let a : (h + 1) * D ≤ t * D = mul-le-mul_right D k in
            let b : D < 2 * rho = lt_of_mul-lt-mul_right w (omega arith) in
            rw (lt-ltb D (2 * rho) b, lt-ltb h t g) refl
      ]
    ]

rest_is : (n D w Q r x t rho : ℕ) → n ≡ x * D + rho → n * w ≡ Q * D + r → Q ≡ x * w + t → rho * w ≡ t * D + r
rest_is n D w Q r x t rho a b c = omega (arith, ap (λ y. y * w) a, ap (λ y. y * D) c)

below_is : (f : Format) (bits i : ℕ) → numerator f bits i / denominator f ≡ below f bits i
unfolding below
below_is f bits i = refl

pub nearer_at : (f : Format) (bits leading place : ℕ) (more : Bool) (s : ℕ) → IsLeading f bits leading place more → 1 ≤ s → s ≤ 18
    → (ltb (10 ^ s / 2) (leading % 10 ^ s) || (eqb (leading % 10 ^ s) (10 ^ s / 2) && (more || eqb (leading / 10 ^ s % 2) 1))) ≡ is_above_nearer f bits (place - s)
unfolding is_above_nearer
nearer_at f bits leading place more s lead a b =
    let D = denominator f in
    let P = denominator_pos f in
    let range = lead.range in
    let n = numerator f bits (place - s) in
    let w = 10 ^ s in
    let front_is = front f bits leading place more s lead (omega arith) in
    let at = numerator_at f bits place s (omega arith) in
    let whole : n * w ≡ leading * D + numerator f bits place % D = sym at ∙ sym (div-add-mod' (numerator f bits place) D) ∙ ap (λ x. x * D + numerator f bits place % D) (sym lead.are) in
    let parts : n ≡ leading / w * D + n % D = sym (div-add-mod' n D) ∙ ap (λ x. x * D + n % D) (below_is f bits (place - s) ∙ sym front_is) in
    let E = rest_is n D w leading (numerator f bits place % D) (leading / w) (leading % w) (n % D) parts whole (sym (div-add-mod' leading w)) in
    let even : w ≡ 2 * (w / 2) = half_of s a in
    rw (lead.follows, ← front_is) (sym (nearer D (n % D) w (w / 2) (leading % w) (numerator f bits place % D) (eqb (leading / w % 2) 1) (mod-lt _ P) even (ten_to_pos s) E))
  where
    half_of : (s : ℕ) → 1 ≤ s → 10 ^ s ≡ 2 * (10 ^ s / 2)
    half_of zero h = absurd (omega arith)
    half_of (suc s) h = omega (arith, pow-suc 10 s)

-- ---- the digits by cases

pub found_is : (f : Format) (bits i d : ℕ) → d ≡ below f bits i → (reads_back f bits d i || reads_back f bits (d + 1) i) ≡ is_found f bits i
unfolding is_found
found_is f bits i d e = rw e refl

pub found_first : (f : Format) (bits i d : ℕ) → d ≡ below f bits i → reads_back f bits d i ≡ true → true ≡ is_found f bits i
found_first f bits i d e h = sym (ap (λ b. b || reads_back f bits (d + 1) i) h) ∙ found_is f bits i d e

pub found_second : (f : Format) (bits i d : ℕ) → d ≡ below f bits i → reads_back f bits d i ≡ false → reads_back f bits (d + 1) i ≡ is_found f bits i
found_second f bits i d e h = sym (ap (λ b. b || reads_back f bits (d + 1) i) h) ∙ found_is f bits i d e

pub last_place_is : (f : Format) (bits : ℕ) → first_from (is_found f bits) (first_place f bits) (most_digits f - 1) ≡ last_place f bits
unfolding last_place
last_place_is f bits = refl

pub takes_above : (f : Format) (bits i d : ℕ) → i ≡ last_place f bits → d ≡ below f bits i → reads_back f bits d i ≡ false → d + 1 ≡ digits f bits
unfolding digits
takes_above f bits i d e s h = rw (← e, ← s, h) refl

pub takes_nearer : (f : Format) (bits i d : ℕ) → i ≡ last_place f bits → d ≡ below f bits i → reads_back f bits d i ≡ true → cond (reads_back f bits (d + 1) i && is_above_nearer f bits i) (d + 1) d ≡ digits f bits
unfolding digits
takes_nearer f bits i d e s h = rw (← e, ← s, h) refl
