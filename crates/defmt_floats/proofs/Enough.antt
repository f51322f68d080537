-- So many digits as a format needs are enough: with them one of the two decimals next to a float reads back.
use Rattle.std.proofs.Common.{◌≡◌, ℕ, zero, suc, ◌+◌, ◌-◌, ◌*◌, ◌/◌, ◌%◌, ◌^◌, ◌<◌, ◌≤◌, Bool, true, false, ◌&&◌, ◌||◌, ◌⊎◌, if◌then◌else◌, ltb, refl, sym, ap, ◌∙◌, subst, arith, inl, inr, lit≤, mul_assoc, mul-pos, mul-le-mul_left, mul-le-mul_right, mul-lt-mul_of_pos_right, lt_of_mul-lt-mul_right, le_of_mul-le-mul_right, div-add-mod', mod-lt, pow_pos, pow-add, le-div_iff_mul-le, true≢false}
use Rattle.std.proofs.lemmas.Bool.{cases_lt, lt-ltb, ltb-true}
use Rattle.std.proofs.Math.Bool.{or-true}
use native.Mathlib.Nat.{div-eq_of_lt}
use lib.Ieee.{Format, binary32, binary64, low, hid, ones}
use Rattle.fast_float.specs.Rounding.{scaled_bits, IsNearestBits}
use Rattle.fast_float.proofs.ExactLemmas.{ten_to_pos}
use Rattle.fast_float.proofs.Patterns.{shape}
use Rattle.fast_float.proofs.RoundingLemmas.{nearest_of_near}
use Rattle.defmt_floats.specs.Shortest.{tens, most_digits, significand, exponent, numerator, denominator, below, reads_back, is_found, first_from, first_place, last_place, is_above_nearer, digits}
use Rattle.defmt_floats.proofs.Bounds.{significand_low, significand_high, significand_sizes, exponent_is}
use Rattle.defmt_floats.proofs.Places.{reads_true, denominator_pos, numerator_step, few_tens}
use Rattle.defmt_floats.proofs.Products.{powers_two}

-- ---- the bits are those of significand * 2 ^ exponent

bits_are : (f : Format) (bits : ℕ) → exponent f bits * hid f + significand f bits ≡ bits
bits_are f bits = elim (cases_lt bits (hid f)) [
  | inl l ↦
      let none : exponent f bits ≡ 0 = omega (arith, exponent_is f bits, div-eq_of_lt l) in
      omega (arith, ap (λ x. x * hid f) none, significand_low f bits l)
  | inr g ↦
      let whole : 1 ≤ bits / hid f = (le-div_iff_mul-le (pow_pos _)).1 (omega arith) in
      let back : exponent f bits + 1 ≡ bits / hid f = omega (arith, exponent_is f bits) in
      omega (arith, ap (λ x. x * hid f) back, significand_high f bits g, div-add-mod' bits (hid f))
]

scaled_are : (f : Format) (bits : ℕ) → bits < ones f * hid f → scaled_bits f (significand f bits) (exponent f bits) ≡ bits
scaled_are f bits h = omega (arith, bits_are f bits)

-- above the least exponent the hidden bit is set
hidden : (f : Format) (bits : ℕ) → 0 < exponent f bits → hid f ≤ significand f bits
hidden f bits h = elim (cases_lt bits (hid f)) [
  | inl l ↦ absurd (omega (arith, exponent_is f bits, div-eq_of_lt l))
  | inr g ↦ omega (arith, significand_high f bits g)
]

-- ---- a decimal that is less than half of the gap between floats off

gap : Format → ℕ → ℕ → ℕ
gap f bits i = 2 ^ exponent f bits * 10 ^ i

numerator_gap : (f : Format) (bits i : ℕ) → numerator f bits i ≡ significand f bits * gap f bits i
unfolding numerator gap
numerator_gap f bits i = mul_assoc _ _ _

gap_pos : (f : Format) (bits i : ℕ) → 0 < gap f bits i
unfolding gap
gap_pos f bits i = mul-pos (pow_pos (exponent f bits)) (ten_to_pos i)

-- an order holds over a common factor
scaled_lt : (x y z X Y Z M C : ℕ) → x * C ≡ X * M → y * C ≡ Y * M → z * C ≡ Z * M → 0 < M → 2 * X < 2 * Y + Z → 2 * x < 2 * y + z
scaled_lt x y z X Y Z M C a b c m h = lt_of_mul-lt-mul_right C (omega (arith, a, b, c, mul-lt-mul_of_pos_right h m))

scaled_le : (h x y X Y M C : ℕ) → x * C ≡ X * M → y * C ≡ Y * M → 0 < C → h * X ≤ Y → h * x ≤ y
scaled_le h x y X Y M C a b c le = le_of_mul-le-mul_right {k = C} (omega (arith, ap (λ n. h * n) a, b, mul-le-mul_right M le)) c

module _ (m B A D U V T L M : ℕ) (up : U * A ≡ M) (down : V * T ≡ M) where
  scaled_float : m * (V * B) * (A * T) ≡ m * (B * A) * M
  scaled_float = let e : m * (V * B) * (A * T) ≡ m * (B * A) * (V * T) = grind arith in e ∙ ap (λ x. m * (B * A) * x) down

  scaled_gap : V * B * (A * T) ≡ B * A * M
  scaled_gap = let e : V * B * (A * T) ≡ B * A * (V * T) = grind arith in e ∙ ap (λ x. B * A * x) down

  scaled_decimal : D * U * L * (A * T) ≡ D * (L * T) * M
  scaled_decimal = let e : D * U * L * (A * T) ≡ D * (L * T) * (U * A) = grind arith in e ∙ ap (λ x. D * (L * T) * x) up

near_reads : (f : Format) (bits D i : ℕ) → 0 < bits → bits < ones f * hid f → (0 < exponent f bits → hid f * gap f bits i ≤ D * denominator f)
    → 2 * (significand f bits * gap f bits i) < 2 * (D * denominator f) + gap f bits i → 2 * (D * denominator f) < 2 * (significand f bits * gap f bits i) + gap f bits i
    → reads_back f bits D i ≡ true
unfolding denominator gap
near_reads f bits D i p h least from to =
    let m = significand f bits in
    let B = 2 ^ exponent f bits in
    let A = 10 ^ i in
    let T = 10 ^ tens f in
    let U = 10 ^ (tens f - i) in
    let V = 10 ^ (i - tens f) in
    let M = U * A in
    let C : 0 < A * T = mul-pos (ten_to_pos i) (ten_to_pos (tens f)) in
    let some : 0 < M = mul-pos (ten_to_pos (tens f - i)) (ten_to_pos i) in
    let down : V * T ≡ M = powers_two (i - tens f) (tens f) (tens f - i) i (omega arith) in
    let float = scaled_float m B A D U V T (2 ^ low f) M refl down in
    let one = scaled_gap m B A D U V T (2 ^ low f) M refl down in
    let decimal = scaled_decimal m B A D U V T (2 ^ low f) M refl down in
    let s = shape f in
    let sizes = significand_sizes f bits p in
    reads_true f bits D i h (subst (IsNearestBits f (D * U) V) (scaled_are f bits h)
    (nearest_of_near f (D * U) V m (exponent f bits) (ten_to_pos (i - tens f)) (omega arith) (hidden f bits) (λ k. scaled_le (hid f) (V * B) (D * U * 2 ^ low f) (B * A) (D * (2 ^ low f * T)) M (A * T) one decimal C (least k))
    (scaled_lt (m * (V * B)) (D * U * 2 ^ low f) (V * B) (m * (B * A)) (D * (2 ^ low f * T)) (B * A) M (A * T) float decimal one some from)
    (scaled_lt (D * U * 2 ^ low f) (m * (V * B)) (V * B) (D * (2 ^ low f * T)) (m * (B * A)) (B * A) M (A * T) decimal float one some to)))

-- ---- one of the two decimals is

power_of : (f : Format) → 2 * hid f + 1 ≤ 10 ^ (most_digits f - 1)
power_of binary32 = lit≤ tt
power_of binary64 = lit≤ tt

-- n = d * u + r is m gaps: the gap is more than u, and more than two of them where m is but the hidden bit
wide : (m g d u r h P : ℕ) → 0 < g → m < 2 * h → 2 * h + 1 ≤ P → P ≤ d → m * g ≡ d * u + r → (u < g) × (m ≤ h → 2 * u < g)
wide m g d u r h P G M H D e =
    let many : P * u ≤ d * u = mul-le-mul_right u D in
    let less : m + 1 ≤ 2 * h = omega arith in
    let top : (m + 1) * g ≤ 2 * h * g = mul-le-mul_right g less in
    let power : (2 * h + 1) * g ≤ P * g = mul-le-mul_right g H in (
      lt_of_mul-lt-mul_right P (omega arith),
      λ (few : m ≤ h).
          let half : m * g ≤ h * g = mul-le-mul_right g few in
          lt_of_mul-lt-mul_right P (omega arith),
    )

found_below : (f : Format) (bits i : ℕ) → reads_back f bits (below f bits i) i ≡ true → is_found f bits i ≡ true
unfolding is_found
found_below f bits i h = rw h refl

found_above : (f : Format) (bits i : ℕ) → reads_back f bits (below f bits i + 1) i ≡ true → is_found f bits i ≡ true
unfolding is_found
found_above f bits i h = ap (λ b. reads_back f bits (below f bits i) i || b) h ∙ or-true _

parts : (f : Format) (bits i : ℕ) → significand f bits * gap f bits i ≡ below f bits i * denominator f + numerator f bits i % denominator f
unfolding below
parts f bits i = sym (numerator_gap f bits i) ∙ sym (div-add-mod' (numerator f bits i) (denominator f))

pub found_at : (f : Format) (bits i : ℕ) → 0 < bits → bits < ones f * hid f → 10 ^ (most_digits f - 1) ≤ below f bits i → is_found f bits i ≡ true
found_at f bits i p h many =
    let m = significand f bits in
    let g = gap f bits i in
    let d = below f bits i in
    let u = denominator f in
    let r = numerator f bits i % u in
    let G = gap_pos f bits i in
    let e : m * g ≡ d * u + r = parts f bits i in
    let less : r < u = mod-lt (numerator f bits i) (denominator_pos f) in
    let w = wide m g d u r (hid f) (10 ^ (most_digits f - 1)) G (significand_sizes f bits p).1 (power_of f) many e in
    let above : (2 * u < g) ⊎ (u < 2 * r) → is_found f bits i ≡ true = λ (c : (2 * u < g) ⊎ (u < 2 * r)).
    let near : 2 * ((d + 1) * u) < 2 * (m * g) + g = elim c [ inl a ↦ omega (arith, w.0) | inr b ↦ omega (arith, w.0) ] in
    found_above f bits i (near_reads f bits (d + 1) i p h (λ k. omega (arith, mul-le-mul_right g (hidden f bits k))) (omega arith) near) in
    elim (cases_lt (hid f) m) [
      | inr few ↦ above (inl (w.1 few))
      | inl many_more ↦
          let more : hid f + 1 ≤ m = omega arith in
          let least : (hid f + 1) * g ≤ m * g = mul-le-mul_right g more in
          elim (cases_lt u (2 * r)) [
            | inl far ↦ above (inr far)
            | inr close ↦ found_below f bits i (near_reads f bits d i p h (λ k. omega (arith, w.0)) (omega (arith, w.0)) (omega arith))
          ]
    ]

-- ---- a place is found

found_by : (test : ℕ → Bool) (i count n : ℕ) (b : Bool) → test i ≡ b → i ≤ n → test n ≡ true → (i + 1 ≤ n → test (first_from test (i + 1) count) ≡ true)
    → test (first_from test i (suc count)) ≡ true
unfolding first_from
found_by test i count n true is le yes_n later = rw is is
found_by test i count n false is le yes_n later =
    let other : i + 1 ≤ n = elim (cases_lt i n) [ inl l ↦ omega arith | inr g ↦ let e : i ≡ n = omega arith in absurd (true≢false (sym yes_n ∙ ap test (sym e) ∙ is)) ] in
    rw is (later other)

first_found : (test : ℕ → Bool) (i count n : ℕ) → i ≤ n → n ≤ i + count → test n ≡ true → test (first_from test i count) ≡ true
unfolding first_from
first_found test i zero n a b passes = let e : i ≡ n = omega arith in ap test e ∙ passes
first_found test i (suc count) n a b passes = found_by test i count n (test i) refl a passes (λ l. first_found test (i + 1) count n l (omega arith) passes)

-- 2 ^ low f is below this power of ten
low_tens : (f : Format) → 2 ^ low f ≤ 10 ^ 324
low_tens binary32 = lit≤ tt
low_tens binary64 = lit≤ tt

some_place : (f : Format) (bits : ℕ) → 0 < bits → 0 < below f bits (tens f + 324)
unfolding numerator denominator below
some_place f bits p =
    let T = 10 ^ tens f in
    let size = mul-pos (significand_sizes f bits p).0 (pow_pos (exponent f bits)) in
    let some : 1 ≤ significand f bits * 2 ^ exponent f bits = omega arith in
    let one : 1 * 10 ^ (tens f + 324) ≤ significand f bits * 2 ^ exponent f bits * 10 ^ (tens f + 324) = mul-le-mul_right (10 ^ (tens f + 324)) some in
    let split = pow-add 10 (tens f) 324 in
    let low_is : T * 2 ^ low f ≤ T * 10 ^ 324 = mul-le-mul_left T (low_tens f) in
    (le-div_iff_mul-le (denominator_pos f)).1 (omega arith)

first_some : (f : Format) (bits : ℕ) → 0 < bits → 0 < below f bits (first_place f bits)
unfolding first_place
first_some f bits p =
    let t = few_tens f in
    ltb-true _ _ (first_found (λ i. ltb 0 (below f bits i)) 0 700 (tens f + 324) (omega arith) (omega arith) (lt-ltb _ _ (some_place f bits p)))

-- each place more has a digit more
more_digits : (f : Format) (bits i s : ℕ) → 0 < below f bits i → 10 ^ s ≤ below f bits (i + s)
unfolding below
more_digits f bits i s h =
    let one : 1 * denominator f ≤ numerator f bits i = (le-div_iff_mul-le (denominator_pos f)).0 h in
    (le-div_iff_mul-le (denominator_pos f)).1 (omega (arith, numerator_step f bits i s, mul-le-mul_right (10 ^ s) one))

last_found : (f : Format) (bits : ℕ) → 0 < bits → bits < ones f * hid f → is_found f bits (last_place f bits) ≡ true
unfolding last_place
last_found f bits p h =
    let i = first_place f bits in
    let s = most_digits f - 1 in
    first_found (is_found f bits) i s (i + s) (omega arith) (omega arith) (found_at f bits (i + s) p h (more_digits f bits i s (first_some f bits p)))

-- ---- the digits read back

one_of : (lower upper nearer : Bool) (f : Format) (bits d i : ℕ) → reads_back f bits d i ≡ lower → reads_back f bits (d + 1) i ≡ upper → (lower || upper) ≡ true
    → reads_back f bits (if lower then (if (upper && nearer) then d + 1 else d) else d + 1) i ≡ true
one_of true true true f bits d i a b h = b
one_of true true false f bits d i a b h = a
one_of true false nearer f bits d i a b h = a
one_of false true nearer f bits d i a b h = b
one_of false false nearer f bits d i a b h = absurd (true≢false (sym h))

found_one : (f : Format) (bits i : ℕ) → is_found f bits i ≡ true → (reads_back f bits (below f bits i) i || reads_back f bits (below f bits i + 1) i) ≡ true
unfolding is_found
found_one f bits i h = h

pub digits_read : (f : Format) (bits : ℕ) → 0 < bits → bits < ones f * hid f → reads_back f bits (digits f bits) (last_place f bits) ≡ true
unfolding digits
digits_read f bits p h =
    let i = last_place f bits in
    let d = below f bits i in
    one_of (reads_back f bits d i) (reads_back f bits (d + 1) i) (is_above_nearer f bits i) f bits d i refl refl (found_one f bits i (last_found f bits p h))
