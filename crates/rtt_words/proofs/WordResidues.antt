-- Distances of numbers from their residues, and the word and lane of a place.
use Rattle.std.proofs.Common.{◌≡◌, ℕ, suc, ◌+◌, ◌-◌, ◌*◌, ◌/◌, ◌%◌, ◌<◌, ◌≤◌, sym, ap, ◌∙◌, ⊎_elim, mod-lt, div-add-mod', lt_of_not-le, suc-mul, arith}
use Rattle.std.proofs.lemmas.Nat.{mod-mul-add}
use native.Mathlib.Decide.{dec_le}
use Rattle.rtt_words.proofs.Residues.{turn}

-- the distance of two numbers less than z apart, from their residues: where the second is not below the first
pub gap_up : (a b z : ℕ) → a ≤ b → b < a + z → a % z ≤ b % z → b % z ≡ (b - a) + a % z
gap_up a b z le lt h =
    let k : ℕ = b - a in
    let same : (a + k) % z ≡ b % z = ap (λ (x : ℕ). x % z) (omega arith) in
    let pos : a % z < z = mod-lt a (omega arith) in
    ⊎_elim (λ (t : (a % z + k < z) × ((a + k) % z ≡ a % z + k)). sym same ∙ t.1 ∙ omega arith)
    (λ (t : (z ≤ a % z + k) × ((a + k) % z + z ≡ a % z + k)). let e = t.1 in let e' : b % z + z ≡ a % z + k = ap (λ (x : ℕ). x + z) (sym same) ∙ e in absurd (omega arith))
    (turn a k z (omega arith))

-- and where it is
pub gap_down : (a b z : ℕ) → a ≤ b → b < a + z → b % z < a % z → b % z + z ≡ (b - a) + a % z
gap_down a b z le lt h =
    let k : ℕ = b - a in
    let same : (a + k) % z ≡ b % z = ap (λ (x : ℕ). x % z) (omega arith) in
    ⊎_elim (λ (t : (a % z + k < z) × ((a + k) % z ≡ a % z + k)). let e' : b % z ≡ a % z + k = sym same ∙ t.1 in absurd (omega arith))
    (λ (t : (z ≤ a % z + k) × ((a + k) % z + z ≡ a % z + k)). ap (λ (x : ℕ). x + z) (sym same) ∙ t.1 ∙ omega arith)
    (turn a k z (omega arith))

-- the word and the lane of the place 8 * k + l
pub word_of : (p k l : ℕ) → p ≡ k * 8 + l → l < 8 → p / 8 ≡ k
word_of p k l is small = let e = div-add-mod' p 8 in let m : p % 8 ≡ l = ap (λ (x : ℕ). x % 8) is ∙ mod-mul-add k 8 l small in omega arith

pub lane_of : (p k l : ℕ) → p ≡ k * 8 + l → l < 8 → p % 8 ≡ l
lane_of p k l is small = ap (λ (x : ℕ). x % 8) is ∙ mod-mul-add k 8 l small

-- further on, where there is no turn
pub straight : (n t z : ℕ) → n % z + t < z → (n + t) % z ≡ n % z + t
straight n t z h = ⊎_elim (λ (x : (n % z + t < z) × ((n + t) % z ≡ n % z + t)). x.1) (λ (x : (z ≤ n % z + t) × ((n + t) % z + z ≡ n % z + t)). absurd (omega arith)) (turn n t z (omega arith))

pub turned : (n t z : ℕ) → 0 < z → n % z + t ≡ z → (n + t) % z ≡ 0
turned n t z pos h = by_size (dec_le z t)
  where
    by_size : Dec (z ≤ t) → (n + t) % z ≡ 0
    by_size (yes le) = let zero : n % z ≡ 0 = omega arith in let same : t ≡ z = omega arith in let q = div-add-mod' n z in ap (λ (x : ℕ). x % z) (omega (arith, suc-mul (n / z) z)) ∙ mod-mul-add (suc (n / z)) z 0 pos
    by_size (no lt) = let below : t < z = lt_of_not-le lt in ⊎_elim (λ (x : (n % z + t < z) × ((n + t) % z ≡ n % z + t)). absurd (omega arith)) (λ (x : (z ≤ n % z + t) × ((n + t) % z + z ≡ n % z + t)). let e = x.1 in omega arith) (turn n t z below)
