-- The bits of a number.
use Rattle.std.proofs.Common.{◌≡◌, ◌<◌, ◌≤◌, ◌^◌, ◌/◌, ◌%◌, ℕ, arith, lit<, sym}
use Rattle.std.proofs.Math.Nat.{pow-le-pow_right, mod-eq_of_lt, div-eq_of_lt}

within : (n bits : ℕ) → n < 2 ^ 128 → 128 ≤ bits → n < 2 ^ bits
within n bits h k = let p : 2 ^ 128 ≤ 2 ^ bits = pow-le-pow_right (lit< tt) k in omega (arith, p, h)

pub none_above : (n bits : ℕ) → n < 2 ^ 128 → 128 ≤ bits → 0 ≡ n / 2 ^ bits
none_above n bits h k = sym (div-eq_of_lt (within n bits h k))

pub all_below : (n bits : ℕ) → n < 2 ^ 128 → 128 ≤ bits → n ≡ n % 2 ^ bits
all_below n bits h k = sym (mod-eq_of_lt (within n bits h k))
