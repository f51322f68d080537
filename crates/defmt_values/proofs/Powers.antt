-- Powers of 256.
use Rattle.std.proofs.Common.{◌≡◌, ◌<◌, ◌≤◌, ◌^◌, ◌%◌, ◌==◌, nat_lt, true, ℕ, arith, lit<, lit≤, sym, ap}
use Rattle.std.proofs.Math.Nat.{one-le-pow, pow-le-pow_right, mod-eq_of_lt}
use Rattle.std.proofs.lemmas.Bool.{lt-ltb}

pub few_fit : (e : ℕ) → e < 16 → 256 ^ e < 2 ^ 128
few_fit e h = let k : e ≤ 15 = omega arith in let p : 256 ^ e ≤ 256 ^ 15 = pow-le-pow_right (lit< tt) k in let q : 256 ^ 15 < 2 ^ 128 = lit< tt in omega (arith, p, q)

pub some : (e : ℕ) → 0 < 256 ^ e
some e = let p : 1 ≤ 256 ^ e = one-le-pow e 256 (lit< tt) in omega (arith, p)

pub many_pass : (n e : ℕ) → n < 2 ^ 128 → 16 ≤ e → n < 256 ^ e
many_pass n e h k = let p : 256 ^ 16 ≤ 256 ^ e = pow-le-pow_right (lit< tt) k in let q : 2 ^ 128 ≤ 256 ^ 16 = lit≤ tt in omega (arith, p, q)

pub is_below : (n e : ℕ) → n < 2 ^ 128 → 16 ≤ e → true ≡ nat_lt n (256 ^ e)
is_below n e h k = sym (lt-ltb n (256 ^ e) (many_pass n e h k))

pub is_multiple : (n e : ℕ) → n < 2 ^ 128 → 16 ≤ e → (n == 0) ≡ (n % 256 ^ e == 0)
is_multiple n e h k = sym (ap (λ m. m == 0) (mod-eq_of_lt (many_pass n e h k)))

pub many_bits : (n bits : ℕ) → n < 2 ^ 128 → 128 ≤ bits → true ≡ nat_lt n (2 ^ bits)
many_bits n bits h k = let p : 2 ^ 128 ≤ 2 ^ bits = pow-le-pow_right (lit< tt) k in sym (lt-ltb n (2 ^ bits) (omega (arith, p, h)))
