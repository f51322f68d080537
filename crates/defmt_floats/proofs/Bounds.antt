-- How large a float and the numbers of its long division are.
use Rattle.std.proofs.Common.{◌≡◌, ℕ, ◌+◌, ◌-◌, ◌*◌, ◌/◌, ◌%◌, ◌^◌, ◌<◌, ◌≤◌, Bool, refl, sym, ◌∙◌, arith, lit≤, mul-pos, mul-le-mul_left, mul-lt-mul_of_pos_right, mod-lt, pow_pos, pow_mono, le_trans, lt_of_lt_of_le, div-lt_iff_lt-mul, lt_of_not-le, ◌↔◌, IsTrue, inl, inr}
use Rattle.std.proofs.lemmas.Bool.{cases_lt, lt-ltb, le-ltb, ltb_from_iff}
use Rattle.std.proofs.lemmas.Nat.{one_shl, div-mul-add, mod-mul-add}
use native.Mathlib.Nat.{div-eq_of_lt, pow-le-pow_right}
use lib.Ieee.{Format, binary32, binary64, prec, low, hid, ones}
use Rattle.core.specs.Dec2flt.Limbs.{limb_weight}
use Rattle.fast_float.proofs.ExactLemmas.{ten_to_pos}
use Rattle.defmt_floats.specs.Leading.{IsLeading, limb_count}
use Rattle.defmt_floats.specs.Shortest.{tens, significand, exponent, numerator, denominator}
use Rattle.defmt_floats.proofs.LimbLaws.{place_below}

digits_few : (f : Format) → (24 ≤ prec f) × (prec f ≤ 53)
digits_few binary32 = omega arith
digits_few binary64 = omega arith

pub hidden_is : (f : Format) (d : ℕ) → d ≡ prec f → 1 * 2 ^ (d - 1) % 2 ^ 64 ≡ hid f
hidden_is f d e = let few = digits_few f in rw e (one_shl (prec f - 1) 64 (omega arith))

pub significand_low : (f : Format) (bits : ℕ) → bits < hid f → bits ≡ significand f bits
unfolding significand
significand_low f bits h = rw (lt-ltb bits (hid f) h) refl

pub significand_high : (f : Format) (bits : ℕ) → hid f ≤ bits → hid f + bits % hid f ≡ significand f bits
unfolding significand
significand_high f bits h = rw (le-ltb bits (hid f) h) refl

pub exponent_low : (f : Format) (bits : ℕ) → bits < hid f → 0 ≡ exponent f bits
unfolding exponent
exponent_low f bits h = rw (div-eq_of_lt h) refl

pub exponent_is : (f : Format) (bits : ℕ) → bits / hid f - 1 ≡ exponent f bits
unfolding exponent
exponent_is f bits = refl

pub significand_sizes : (f : Format) (bits : ℕ) → 0 < bits → (0 < significand f bits) × (significand f bits < 2 * hid f)
significand_sizes f bits h =
    let some : 0 < hid f = pow_pos _ in
    elim (cases_lt bits (hid f)) [
      | inl l ↦ let e = significand_low f bits l in (omega arith, omega arith)
      | inr g ↦ let e = significand_high f bits g in let m = mod-lt bits some in (omega arith, omega arith)
    ]

exponent_small : (f : Format) (bits : ℕ) → bits < ones f * hid f → exponent f bits ≤ ones f - 2
exponent_small f bits h =
    let d : bits / hid f < ones f = (div-lt_iff_lt-mul (pow_pos _)).1 h in
    omega (arith, exponent_is f bits)

small_hidden : (f : Format) → (2 * hid f ≤ 2 ^ 53) × (ones f ≤ 2047)
small_hidden binary32 = (lit≤ tt, lit≤ tt)
small_hidden binary64 = (lit≤ tt, lit≤ tt)

pub small_parts : (f : Format) (bits m e : ℕ) → 0 < bits → bits < ones f * hid f → m ≡ significand f bits → e ≡ exponent f bits → (0 < m) × (m < 2 ^ 53) × (e < 4000)
small_parts f bits m e p h a b =
    let s = significand_sizes f bits p in
    let k = small_hidden f in
    let x = exponent_small f bits h in
    (omega arith, omega arith, omega arith)

abbrev pub size : Format → ℕ → ℕ
size f bits = significand f bits * 2 ^ exponent f bits

largest : (f : Format) → 2 * hid f * 2 ^ (ones f - 2) ≤ denominator f
unfolding denominator
largest binary32 = lit≤ tt
largest binary64 = lit≤ tt

pub size_bounds : (f : Format) (bits : ℕ) → 0 < bits → bits < ones f * hid f → (0 < size f bits) × (size f bits < denominator f)
size_bounds f bits p h =
    let m = significand_sizes f bits p in
    let e : 2 ^ exponent f bits ≤ 2 ^ (ones f - 2) = pow_mono (exponent_small f bits h) in
    let x = pow_pos (exponent f bits) in
    let a : significand f bits * 2 ^ exponent f bits < 2 * hid f * 2 ^ exponent f bits = mul-lt-mul_of_pos_right m.1 x in
    (mul-pos m.0 x, lt_of_lt_of_le a (le_trans (mul-le-mul_left (2 * hid f) e) (largest f)))

pub room : (f : Format) → denominator f * 10 ≤ limb_weight (limb_count f)
unfolding denominator limb_weight
room binary32 = lit≤ tt
room binary64 = lit≤ tt

pub far : (f : Format) → (10 ^ 19 * denominator f ≤ 10 ^ 652) × (10 ^ 19 * denominator f ≤ 10 ^ (tens f + 345))
unfolding denominator
far binary32 = (lit≤ tt, lit≤ tt)
far binary64 = (lit≤ tt, lit≤ tt)

pub denominator_is : (f : Format) → 2 ^ low f * 10 ^ tens f ≡ denominator f
unfolding denominator
denominator_is f = refl

pub tenths_are : (f : Format) → 2 ^ low f * 10 ^ (tens f - 18) * 10 ^ 18 ≡ denominator f
unfolding denominator
tenths_are binary32 = refl
tenths_are binary64 = refl

numerator_is : (f : Format) (bits i : ℕ) → size f bits * 10 ^ i ≡ numerator f bits i
unfolding numerator
numerator_is f bits i = refl

-- what the long division found
pub divided : (f : Format) (bits digits place rest by : ℕ) (more : Bool) → 0 < bits → bits < ones f * hid f → size f bits * 10 ^ place ≡ digits * denominator f + rest → rest < denominator f
    → 10 ^ 18 ≤ digits → digits < 10 ^ 19 → by ≡ 0 → (IsTrue more ↔ (by < rest)) → IsLeading f bits digits place more
divided f bits digits place rest by more p h parts less many few none follows =
    let D = denominator f in
    let n = sym (numerator_is f bits place) ∙ parts in
    let s = size_bounds f bits p h in
    let top : place < tens f + 345 = place_below _ place digits D rest (10 ^ 19) (tens f + 345) s.0 parts less few (far f).1 in
    let least : 19 ≤ place = lt_of_not-le (λ (short : place ≤ 18).
    let a : 10 ^ place ≤ 10 ^ 18 = pow-le-pow_right (omega arith) short in
    let b : 10 ^ place ≤ digits = le_trans a many in
    let c : size f bits * 10 ^ place < D * 10 ^ place = mul-lt-mul_of_pos_right s.1 (ten_to_pos place) in
    let d : D * 10 ^ place ≤ D * digits = mul-le-mul_left D b in
    omega arith) in
    record {
      are = rw n (sym (div-mul-add digits D rest less));
      follows = rw n (rw (mod-mul-add digits D rest less) (rw none at (ltb_from_iff follows)));
      sizes = (many, few);
      range = (least, omega arith);
    }

pub fits_size : (f : Format) (bits m e n : ℕ) → 0 < bits → bits < ones f * hid f → m ≡ significand f bits → e ≡ exponent f bits → n ≡ limb_count f → (m < limb_weight n) × (m * 2 ^ e < limb_weight n)
fits_size f bits m e n p h a b c =
    let s = size_bounds f bits p h in
    let least : significand f bits * 1 ≤ size f bits = mul-le-mul_left (significand f bits) (pow_pos (exponent f bits)) in
    rw (a, b, c) (omega (arith, room f), omega (arith, room f))

pub weight_pos_of : (f : Format) (n : ℕ) → n ≡ limb_count f → 0 < limb_weight n
unfolding limb_weight
weight_pos_of binary32 n e = rw e (lit≤ tt)
weight_pos_of binary64 n e = rw e (lit≤ tt)

pub size_is : (f : Format) (bits m e v w : ℕ) → m ≡ significand f bits → e ≡ exponent f bits → w ≡ m → v ≡ w * 2 ^ e → v ≡ size f bits
size_is f bits m e v w a b c d = d ∙ rw (c, a, b) refl
