-- What a product with a power of ten tells of a float.
use Rattle.std.proofs.Common.{◌≡◌, ℕ, zero, suc, ◌+◌, ◌-◌, ◌*◌, ◌/◌, ◌%◌, ◌^◌, ◌<◌, ◌≤◌, Bool, true, false, ltb, IsTrue, sym, ap, ap₂, ◌∙◌, arith, pow-add, pow_pos, mul-pos, mul-le-mul_left, mul-le-mul_right, mul-lt-mul_of_pos_right, le_of_mul-le-mul_right, lt_of_mul-lt-mul_right, mul_assoc, refl, pow_mono, mod-lt, div-add-mod', Option, Some, None}
use Rattle.std.specs.Prelude.{IfSome}
use Rattle.std.proofs.lemmas.Bool.{lt-ltb, le-ltb}
use Rattle.std.proofs.lemmas.Nat.{mul-le, div-mul-add, mod-mul-add}
use native.Mathlib.Nat.{eq_of_mul-eq-mul_right, pow-le-pow_right}
use lib.Ieee.{Format, low}
use Rattle.fast_float.specs.Powers.{power_scale, power_num, power_den, IsRow}
use Rattle.fast_float.proofs.ExactLemmas.{ten_to_pos}
use Rattle.defmt_floats.specs.Leading.{IsLeading}
use Rattle.defmt_floats.specs.Product.{IsFixed}
use Rattle.defmt_floats.specs.Shortest.{tens, significand, exponent, numerator, denominator}
use Rattle.defmt_floats.proofs.Places.{denominator_pos}

-- ---- the whole part

parts_of : (n d q : ℕ) → q * d ≤ n → n < (q + 1) * d → (q ≡ n / d) × (n - q * d ≡ n % d)
parts_of n d q a b =
    let less : n - q * d < d = omega arith in
    let e : q * d + (n - q * d) ≡ n = omega arith in
    (sym (div-mul-add q d (n - q * d) less) ∙ ap (λ x. x / d) e, sym (mod-mul-add q d (n - q * d) less) ∙ ap (λ x. x % d) e)

pub part_between : (n d h q r w : ℕ) → 0 < d → h ≡ q * w + r → 0 < r → r + 2 ≤ w → h * d ≤ n * w → n * w < (h + 2) * d → (q ≡ n / d) × (true ≡ ltb 0 (n % d))
part_between n d h q r w D e R W a b =
    let P : 0 < w = omega arith in
    let shape : h * d ≡ q * d * w + r * d = omega (arith, ap (λ x. x * d) e) in
    let some : 0 < r * d = mul-pos R D in
    let most : (r + 2) * d ≤ w * d = mul-le-mul_right d W in
    let above : q * d < n = lt_of_mul-lt-mul_right w (omega arith) in
    let under : n < (q + 1) * d = lt_of_mul-lt-mul_right w (omega arith) in
    let p = parts_of n d q (omega arith) under in
    (p.0, sym (lt-ltb 0 (n % d) (omega (arith, p.1))))

pub part_exact : (n d h q w : ℕ) → 0 < d → 0 < w → h ≡ q * w → n * w ≡ h * d → (q ≡ n / d) × (false ≡ ltb 0 (n % d))
part_exact n d h q w D W e a =
    let same : n ≡ q * d = eq_of_mul-eq-mul_right w W _ _ (omega (arith, ap (λ x. x * d) e)) in
    let p = parts_of n d q (omega arith) (omega arith) in
    (p.0, sym (le-ltb 0 (n % d) (omega (arith, p.1))))

-- ---- the product

-- n / d over 2 ^ shift is a number times the power of ten, over 2 ^ 64
regroup : (m A I W K J S Z P O L T : ℕ) → A * W * K * S ≡ Z * O * L → I * J ≡ P * T → m * A * I * (W * K) * (J * S) ≡ m * Z * (P * O) * (L * T)
regroup m A I W K J S Z P O L T twos ten =
    let left : m * A * I * (W * K) * (J * S) ≡ m * (A * W * K * S) * (I * J) = grind arith in
    let right : m * (Z * O * L) * (P * T) ≡ m * Z * (P * O) * (L * T) = grind arith in
    left ∙ ap₂ (λ x y. m * x * y) twos ten ∙ right

powers_four : (a b c d x y z : ℕ) → a + b + c + d ≡ x + y + z → 2 ^ a * 2 ^ b * 2 ^ c * 2 ^ d ≡ 2 ^ x * 2 ^ y * 2 ^ z
powers_four a b c d x y z e =
    let left : 2 ^ (a + b + c + d) ≡ 2 ^ a * 2 ^ b * 2 ^ c * 2 ^ d = pow-add 2 (a + b + c) d ∙ ap (λ p. p * 2 ^ d) (pow-add 2 (a + b) c ∙ ap (λ p. p * 2 ^ c) (pow-add 2 a b)) in
    let right : 2 ^ (x + y + z) ≡ 2 ^ x * 2 ^ y * 2 ^ z = pow-add 2 (x + y) z ∙ ap (λ p. p * 2 ^ z) (pow-add 2 x y) in
    sym left ∙ ap (λ p. 2 ^ p) e ∙ right

pub powers_two : (a b x y : ℕ) → a + b ≡ x + y → 10 ^ a * 10 ^ b ≡ 10 ^ x * 10 ^ y
powers_two a b x y e = sym (pow-add 10 a b) ∙ ap (λ p. 10 ^ p) e ∙ pow-add 10 x y

-- the float at a place is its significand times the row's power of ten, in fixed point
fixed : (f : Format) (bits place row shift m : ℕ) → m ≡ significand f bits → row + tens f ≡ place + 342 → exponent f bits + shift + 64 + power_scale row ≡ 11 + 1266 + low f
    → numerator f bits place * (2 ^ shift * 2 ^ 64) * power_den row ≡ m * 2 ^ 11 * power_num row * denominator f
unfolding numerator denominator
fixed f bits place row shift m e r s =
    let twos = powers_four (exponent f bits) shift 64 (power_scale row) 11 1266 (low f) s in
    let ten = powers_two place (342 - row) (row - 342) (tens f) (omega arith) in
    rw e (regroup (significand f bits) (2 ^ exponent f bits) (10 ^ place) (2 ^ shift) (2 ^ 64) (10 ^ (342 - row)) (2 ^ power_scale row) (2 ^ 11) (10 ^ (row - 342)) (2 ^ 1266) (2 ^ low f) (10 ^ tens f) twos ten)

-- what is cut off of a power of ten, and of the product with it
from_row : (h K v t den num : ℕ) → t * den ≤ num → h * K ≤ v * t → h * (K * den) ≤ v * num
from_row h K v t den num a b = omega (arith, mul-le-mul_right den b, mul-le-mul_left v a)

below_row : (h K v t den num : ℕ) → 0 < v → num < (t + 1) * den → v * (t + 1) ≤ h * K → v * num < h * (K * den)
below_row h K v t den num p a b = omega (arith, mul-le-mul_right den b, mul-lt-mul_of_pos_right a p)

-- both sides of the product are over the same unit
module _ (n d w K den v num : ℕ) (E : n * (w * K) * den ≡ v * num * d) (P : 0 < K * den) where
  lower : (h : ℕ) → h * (K * den) ≤ v * num → h * d ≤ n * w
  lower h a = le_of_mul-le-mul_right {k = K * den} (omega (arith, mul-le-mul_right d a)) P

  upper : (h : ℕ) → 0 < d → v * num < h * (K * den) → n * w < h * d
  upper h D a = lt_of_mul-lt-mul_right (K * den) (omega (arith, mul-lt-mul_of_pos_right a D))

  exactly : (h : ℕ) → v * num ≡ h * (K * den) → n * w ≡ h * d
  exactly h a = eq_of_mul-eq-mul_right (K * den) P _ _ (omega (arith, ap (λ x. x * d) a))

-- a row is its power of ten where nothing is cut off
exact_by : (t N P den num : ℕ) → 0 < P → den ≡ P → num ≡ N * P → t * den ≤ num → num < (t + 1) * den → t * den ≡ num
exact_by t N P den num pos a b c e =
    let most : t ≤ N = le_of_mul-le-mul_right {k = P} (omega (arith, ap (λ x. t * x) a)) pos in
    let least : N < t + 1 = lt_of_mul-lt-mul_right P (omega (arith, ap (λ x. (t + 1) * x) a)) in
    let same : t ≡ N = omega arith in
    omega (arith, ap (λ x. t * x) a, ap (λ x. x * P) same)

row_exact : (row t : ℕ) → IsRow row t → 342 ≤ row → power_scale row ≤ 1266 → t * power_den row ≡ power_num row
row_exact row t r a b =
    let s = power_scale row in
    let up = row - 342 in
    let none : 342 - row ≡ 0 = omega arith in
    let one : power_den row ≡ 2 ^ s = ap (λ x. 10 ^ x * 2 ^ s) none ∙ one_times (2 ^ s) in
    let back : 1266 - s + s ≡ 1266 = omega arith in
    let split : power_num row ≡ 10 ^ up * 2 ^ (1266 - s) * 2 ^ s = ap (λ x. 10 ^ up * 2 ^ x) (sym back) ∙ ap (λ x. 10 ^ up * x) (pow-add 2 (1266 - s) s) ∙ sym (mul_assoc _ _ _) in
    exact_by t (10 ^ up * 2 ^ (1266 - s)) (2 ^ s) _ _ (pow_pos s) one split r.from r.below
  where
    one_times : (x : ℕ) → 1 * x ≡ x
    one_times x = omega arith

pub fixed_is : (f : Format) (bits place row shift m t h : ℕ) (exact : Bool) → m ≡ significand f bits → row + tens f ≡ place + 342 → exponent f bits + shift + 64 + power_scale row ≡ 11 + 1266 + low f
    → 0 < m → m < 2 ^ 53 → IsRow row t → h * 2 ^ 64 ≤ m * 2 ^ 11 * t → m * 2 ^ 11 * t < (h + 1) * 2 ^ 64
    → (IsTrue exact → (m * 2 ^ 11 * t ≡ h * 2 ^ 64) × (342 ≤ row) × (power_scale row ≤ 1266)) → IsFixed (numerator f bits place) (denominator f) h shift exact
fixed_is f bits place row shift m t h exact e i s some few r from below same =
    let v = m * 2 ^ 11 in
    let n = numerator f bits place in
    let d = denominator f in
    let den = power_den row in
    let num = power_num row in
    let E = fixed f bits place row shift m e i s in
    let DEN : 0 < den = mul-pos (ten_to_pos (342 - row)) (pow_pos (power_scale row)) in
    let P : 0 < 2 ^ 64 * den = mul-pos (pow_pos 64) DEN in
    record {
      from = lower n d (2 ^ shift) (2 ^ 64) den v num E P h (from_row h (2 ^ 64) v t den num r.from from);
      below = upper n d (2 ^ shift) (2 ^ 64) den v num E P (h + 2) (denominator_pos f) (below_row (h + 2) (2 ^ 64) v t den num (omega arith) r.below (omega arith));
      same = λ x.
          let all = same x in
          let row_is = row_exact row t r all.1 all.2 in
          exactly n d (2 ^ shift) (2 ^ 64) den v num E P h (omega (arith, ap (λ y. v * y) row_is, ap (λ y. y * den) all.0));
    }

pub leading_of : (f : Format) (bits place shift h : ℕ) (exact : Bool) (r : Option (ℕ × Bool)) → IsFixed (numerator f bits place) (denominator f) h shift exact → (19 ≤ place) × (place ≤ tens f + 344)
    → IfSome r (λ d. (10 ^ 18 ≤ d.0) × (d.0 < 10 ^ 19)) → IfSome r (λ d. (num den : ℕ) → 0 < den → IsFixed num den h shift exact → (d.0 ≡ num / den) × (d.1 ≡ ltb 0 (num % den)))
    → IfSome r (λ d. IsLeading f bits d.0 place d.1)
leading_of f bits place shift h exact None fx range sizes are = tt
leading_of f bits place shift h exact (Some d) fx range sizes are =
    let a = are (numerator f bits place) (denominator f) (denominator_pos f) fx in
    record { are = a.0; follows = a.1; sizes = sizes; range = range }

-- the words of a product
pub words : (v t : ℕ) → v < 2 ^ 64 → t < 2 ^ 128
    → (v * t ≡ v * (t / 2 ^ 64) * 2 ^ 64 + v * (t % 2 ^ 64)) × (v * (t / 2 ^ 64) ≤ (2 ^ 64 - 1) * (2 ^ 64 - 1)) × (v * (t % 2 ^ 64) ≤ (2 ^ 64 - 1) * (2 ^ 64 - 1))
words v t V T =
    let e : t ≡ t / 2 ^ 64 * 2 ^ 64 + t % 2 ^ 64 = omega arith in
    (omega (arith, ap (λ x. v * x) e), mul-le v (t / 2 ^ 64) (2 ^ 64 - 1) (2 ^ 64 - 1) (omega arith) (omega arith), mul-le v (t % 2 ^ 64) (2 ^ 64 - 1) (2 ^ 64 - 1) (omega arith) (omega arith))

-- ---- a whole number

pub small_shift : (m s : ℕ) → m < 2 ^ 53 → s ≤ 75 → m * 2 ^ s < 2 ^ 128
small_shift m s h k =
    let most : 2 ^ s ≤ 2 ^ 75 = pow_mono k in
    let product = mul-le m (2 ^ s) (2 ^ 53 - 1) (2 ^ 75) (omega arith) most in
    omega arith

pub small_ten : (s : ℕ) → s ≤ 19 → 10 ^ s < 2 ^ 64
small_ten s h = let most : 10 ^ s ≤ 10 ^ 19 = pow-le-pow_right (omega arith) h in omega arith

-- a quotient and its rest over a common factor
common : (W U c n d : ℕ) → 0 < U → 0 < c → n ≡ W * c → d ≡ U * c → (W / U ≡ n / d) × (W % U * c ≡ n % d)
common W U c n d P C a b =
    let q = W / U in
    let r = W % U in
    let whole : q * U + r ≡ W = div-add-mod' W U in
    let e : q * d + r * c ≡ n = omega (arith, ap (λ x. x * c) whole, a, ap (λ x. q * x) b) in
    let less : r * c < d = rw b (mul-lt-mul_of_pos_right (mod-lt W P) C) in
    (sym (div-mul-add q d (r * c) less) ∙ ap (λ x. x / d) e, sym (mod-mul-add q d (r * c) less) ∙ ap (λ x. x % d) e)

some_over : (r c : ℕ) → 0 < c → ltb 0 r ≡ ltb 0 (r * c)
some_over zero c h = let z : zero * c ≡ 0 = omega arith in rw z refl
some_over (suc r) c h = let s : 0 < suc r * c = mul-pos (omega arith) h in rw (lt-ltb 0 (suc r) (omega arith), lt-ltb 0 (suc r * c) s) refl

regroup_four : (a b c d : ℕ) → a * (b * c) * d ≡ a * b * (c * d)
regroup_four a b c d = grind arith

regroup_three : (a b c : ℕ) → a * (b * c) ≡ b * (a * c)
regroup_three a b c = grind arith

whole_numerator : (f : Format) (bits place m : ℕ) → m ≡ significand f bits → low f ≤ exponent f bits → numerator f bits place ≡ m * 2 ^ (exponent f bits - low f) * (2 ^ low f * 10 ^ place)
unfolding numerator
whole_numerator f bits place m e lowest =
    let back : exponent f bits - low f + low f ≡ exponent f bits = omega arith in
    let split : 2 ^ exponent f bits ≡ 2 ^ (exponent f bits - low f) * 2 ^ low f = ap (λ x. 2 ^ x) (sym back) ∙ pow-add 2 (exponent f bits - low f) (low f) in
    ap₂ (λ x y. x * y * 10 ^ place) (sym e) split ∙ regroup_four m (2 ^ (exponent f bits - low f)) (2 ^ low f) (10 ^ place)

whole_denominator : (f : Format) (place : ℕ) → place ≤ tens f → denominator f ≡ 10 ^ (tens f - place) * (2 ^ low f * 10 ^ place)
unfolding denominator
whole_denominator f place h =
    let back : tens f - place + place ≡ tens f = omega arith in
    let split : 10 ^ tens f ≡ 10 ^ (tens f - place) * 10 ^ place = ap (λ x. 10 ^ x) (sym back) ∙ pow-add 10 (tens f - place) place in
    ap (λ x. 2 ^ low f * x) split ∙ regroup_three (2 ^ low f) (10 ^ (tens f - place)) (10 ^ place)

pub leading_whole : (f : Format) (bits place m whole unit : ℕ) (r : Option (ℕ × Bool)) → m ≡ significand f bits → low f ≤ exponent f bits → (19 ≤ place) × (place ≤ tens f)
    → whole ≡ m * 2 ^ (exponent f bits - low f) → unit ≡ 10 ^ (tens f - place)
    → IfSome r (λ d. (10 ^ 18 ≤ d.0) × (d.0 < 10 ^ 19)) → IfSome r (λ d. (d.0 ≡ whole / unit) × (d.1 ≡ ltb 0 (whole % unit)))
    → IfSome r (λ d. IsLeading f bits d.0 place d.1)
leading_whole f bits place m whole unit None e lowest range w u sizes are = tt
leading_whole f bits place m whole unit (Some d) e lowest range w u sizes are =
    let c = 2 ^ low f * 10 ^ place in
    let C : 0 < c = mul-pos (pow_pos (low f)) (ten_to_pos place) in
    let U : 0 < unit = rw u (ten_to_pos (tens f - place)) in
    let n = whole_numerator f bits place m e lowest ∙ ap (λ x. x * c) (sym w) in
    let t = whole_denominator f place range.1 ∙ ap (λ x. x * c) (sym u) in
    let k = common whole unit c _ _ U C n t in
    record {
      are = are.0 ∙ k.0;
      follows = are.1 ∙ some_over (whole % unit) c C ∙ ap (λ x. ltb 0 x) k.1;
      sizes = sizes;
      range = (range.0, omega (arith, range.1));
    }
