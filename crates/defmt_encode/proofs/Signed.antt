-- Signed numbers of some bytes, in two's complement.
use Rattle.std.proofs.Common.{◌≡◌, ◌<◌, ◌≤◌, ◌^◌, ◌+◌, ◌-◌, ◌*◌, ◌/◌, ◌%◌, ℕ, zero, suc, ℤ, pos, negsuc, ◌-ℤ◌, Bool, true, false, nat_lt, List, ◌∷◌, refl, sym, ap, ◌∙◌, subst, arith, pow-add}
use Rattle.std.proofs.Math.Nat.{pow-succ', mul_assoc, one-le-pow}
use Rattle.std.proofs.lemmas.Bool.{ltb-true, ltb-false, lt-ltb, le-ltb}
use Rattle.std.proofs.lemmas.Int.{ints}
use Rattle.std.specs.Int.{w128, cast_unsigned}
use Rattle.byteorder.specs.Endian.{little_bytes, twos_complement}
use Rattle.defmt_grammar.specs.Sizes.{IsSigned}
use Rattle.defmt_encode.proofs.Numbers.{little_more}

-- what stands above the lowest bytes doesn't matter
pub little_mod : (k n j : ℕ) → little_bytes k (n + 256 ^ k * j) ≡ little_bytes k n
little_mod zero n j = refl
little_mod (suc k) n j =
    let q : ℕ = 256 ^ k * j in
    let p : 256 ^ suc k * j ≡ 256 * q = ap (λ m. m * j) (pow-succ' 256 k) ∙ mul_assoc 256 (256 ^ k) j in
    let low : (n + 256 ^ suc k * j) % 256 ≡ n % 256 = omega (arith, p) in
    let high : (n + 256 ^ suc k * j) / 256 ≡ n / 256 + q = omega (arith, p) in
    little_more k (n + 256 ^ suc k * j) ∙ ap (λ m. m ∷ little_bytes k ((n + 256 ^ suc k * j) / 256)) low
    ∙ ap (λ (m : ℕ). n % 256 ∷ little_bytes k m) high ∙ ap (λ (bs : List ℕ). n % 256 ∷ bs) (little_mod k (n / 256) j) ∙ sym (little_more k n)

-- a number below p, less p
less : (x p : ℕ) → x < p → pos x -ℤ pos p ≡ negsuc (p - suc x)
less x p h = omega (arith, ints)

-- the sign bit is half of all
halves : (k : ℕ) → 0 < k → 2 ^ (8 * k) ≡ 2 * 2 ^ (8 * k - 1)
halves k h = let e : 8 * k ≡ suc (8 * k - 1) = omega arith in ap (λ m. 2 ^ m) e ∙ pow-succ' 2 (8 * k - 1)

pub same_power : (k : ℕ) → 256 ^ k ≡ 2 ^ (8 * k)
same_power zero = refl
same_power (suc k) =
    let e : 8 * suc k ≡ 8 + 8 * k = omega arith in
    let p : 2 ^ (8 + 8 * k) ≡ 2 ^ 8 * 2 ^ (8 * k) = pow-add 2 8 (8 * k) in
    let q : 256 ^ suc k ≡ 256 * 256 ^ k = pow-succ' 256 k in
    let m = same_power k in
    q ∙ ap (λ n. 256 * n) m ∙ sym (ap (λ n. 2 ^ n) e ∙ p)

-- 128 bits are some times so many bytes
whole : (k : ℕ) → k ≤ 16 → (j : ℕ) × (2 ^ 128 ≡ 256 ^ k + 256 ^ k * j)
whole k h =
    let e : 128 ≡ 8 * k + (128 - 8 * k) = omega arith in
    let p : 2 ^ (8 * k + (128 - 8 * k)) ≡ 2 ^ (8 * k) * 2 ^ (128 - 8 * k) = pow-add 2 (8 * k) (128 - 8 * k) in
    let q : 1 ≤ 2 ^ (128 - 8 * k) = one-le-pow (128 - 8 * k) 2 (omega arith) in
    let r : 2 ^ 128 ≡ 2 ^ (8 * k + (128 - 8 * k)) = ap (λ m. 2 ^ m) e in
    let s : 2 ^ (8 * k) * 2 ^ (128 - 8 * k) ≡ 256 ^ k * 2 ^ (128 - 8 * k) = ap (λ m. m * 2 ^ (128 - 8 * k)) (sym (same_power k)) in
    let t : 2 ^ (128 - 8 * k) ≡ 1 + (2 ^ (128 - 8 * k) - 1) = omega (arith, q) in
    let u : 256 ^ k * 2 ^ (128 - 8 * k) ≡ 256 ^ k + 256 ^ k * (2 ^ (128 - 8 * k) - 1) = ap (λ m. 256 ^ k * m) t ∙ omega arith in
    (2 ^ (128 - 8 * k) - 1, r ∙ p ∙ s ∙ u)

-- the bytes of a negative number are those of its two's complement
negative_bytes : (k n : ℕ) → k ≤ 16 → suc n ≤ 256 ^ k → little_bytes k (cast_unsigned w128 (negsuc n)) ≡ little_bytes k (256 ^ k - suc n)
negative_bytes k n h le =
    let j = whole k h in
    let q : ℕ = 256 ^ k * j.0 in
    let e : cast_unsigned w128 (negsuc n) ≡ (256 ^ k - suc n) + q = omega (arith, j.1, le) in
    ap (λ m. little_bytes k m) e ∙ little_mod k (256 ^ k - suc n) j.0

-- the number of k bytes whose bytes a signed number has
abbrev pub complement : ℕ → ℤ → ℕ
complement k (pos n) = n
complement k (negsuc n) = 256 ^ k - suc n

pub record Complements (k : ℕ) (z : ℤ) : Type 0 where
  pub small : complement k z < 256 ^ k
  pub bytes : little_bytes k (cast_unsigned w128 z) ≡ little_bytes k (complement k z)
  pub back : twos_complement k (complement k z) ≡ z

twos_low : (k x : ℕ) → x < 2 ^ (8 * k - 1) → twos_complement k x ≡ pos x
twos_low k x h = rw (lt-ltb x (2 ^ (8 * k - 1)) h) refl

twos_high : (k x : ℕ) → 2 ^ (8 * k - 1) ≤ x → x < 2 ^ (8 * k) → twos_complement k x ≡ negsuc (2 ^ (8 * k) - suc x)
twos_high k x h lt = rw (le-ltb x (2 ^ (8 * k - 1)) h) (less x (2 ^ (8 * k)) lt)

pub complements : (k : ℕ) (z : ℤ) → 0 < k → k ≤ 16 → IsSigned (8 * k) z → Complements k z
complements k (pos n) some h lt =
    let p = same_power k in
    let q = halves k some in
    record { small = omega (arith, p, q, lt); bytes = refl; back = twos_low k n lt }
complements k (negsuc n) some h lt =
    let p = same_power k in
    let q = halves k some in
    let x : ℕ = 256 ^ k - suc n in
    let le : suc n ≤ 256 ^ k = omega (arith, p, q, lt) in
    let high : 2 ^ (8 * k - 1) ≤ x = omega (arith, p, q, lt) in
    let below : x < 2 ^ (8 * k) = omega (arith, p, q, lt) in
    let e : 2 ^ (8 * k) - suc x ≡ n = omega (arith, p, q, lt) in
    record { small = omega (arith, le); bytes = negative_bytes k n h le; back = twos_high k x high below ∙ ap (λ m. negsuc m) e }

pub record IsTwos (k x : ℕ) (z : ℤ) : Type 0 where
  pub signed : IsSigned (8 * k) z
  pub bytes : little_bytes k x ≡ little_bytes k (cast_unsigned w128 z)

twos_by : (k x : ℕ) → 0 < k → k ≤ 16 → x < 256 ^ k → (b : Bool) → nat_lt x (2 ^ (8 * k - 1)) ≡ b → (z : ℤ) → twos_complement k x ≡ z → IsTwos k x z
twos_by k x some h lt true e z is =
    let low : x < 2 ^ (8 * k - 1) = ltb-true x (2 ^ (8 * k - 1)) e in
    let z_is : pos x ≡ z = sym (twos_low k x low) ∙ is in
    let i : IsTwos k x (pos x) = record { signed = low; bytes = refl } in
    subst (λ (y : ℤ). IsTwos k x y) z_is i
twos_by k x some h lt false e z is =
    let p = same_power k in
    let q = halves k some in
    let high : 2 ^ (8 * k - 1) ≤ x = ltb-false x (2 ^ (8 * k - 1)) e in
    let m : ℕ = 2 ^ (8 * k) - suc x in
    let z_is : negsuc m ≡ z = sym (twos_high k x high (omega (arith, p, lt))) ∙ is in
    let le : suc m ≤ 256 ^ k = omega (arith, p, lt) in
    let back : 256 ^ k - suc m ≡ x = omega (arith, p, lt) in
    let i : IsTwos k x (negsuc m) = record { signed = omega (arith, p, q, lt, high); bytes = sym (negative_bytes k m h le ∙ ap (λ n. little_bytes k n) back) } in
    subst (λ (y : ℤ). IsTwos k x y) z_is i

pub twos : (k x : ℕ) → 0 < k → k ≤ 16 → x < 256 ^ k → IsTwos k x (twos_complement k x)
twos k x some h lt = twos_by k x some h lt (nat_lt x (2 ^ (8 * k - 1))) refl (twos_complement k x) refl
