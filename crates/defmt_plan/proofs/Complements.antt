-- Signed numbers by the bytes of their two's complements.
use Rattle.std.proofs.Common.{◌≡◌, ◌<◌, ◌≤◌, ◌-◌, ◌*◌, ◌^◌, ℕ, suc, ℤ, pos, negsuc, ◌-ℤ◌, Bool, true, false, nat_lt, refl, ap, subst, ◌∙◌, arith}
use Rattle.std.proofs.lemmas.Bool.{lt-ltb}
use Rattle.std.proofs.lemmas.Int.{ints}
use Rattle.std.specs.Int.{w128, cast_unsigned}
use Rattle.std.specs.Prelude.{if◌then◌else◌}
use Rattle.byteorder.specs.Endian.{little_bytes, twos_complement}
use Rattle.defmt_grammar.specs.Sizes.{size_bits, is_signed, IsSigned}
use Rattle.defmt_grammar.specs.declared.kind.IntSize.{IntSize}
use Rattle.defmt_grammar.specs.declared.kind.IntSize.TheVariants.{W8, W16, W32, W64, W128, Native}
use Rattle.defmt_hints.specs.Printed.{twos_complement as printed_complement}
use Rattle.defmt_encode.proofs.Signed.{twos, same_power}
use Rattle.defmt_encode.specs.Carry.{size_bytes}

-- the signed number of a size that has this two's complement, and its bytes
pub record IsComplement (size : IntSize) (n : ℕ) (z : ℤ) : Type 0 where
  pub signed : IsSigned (size_bits size) z
  pub back : printed_complement (size_bits size) z ≡ n
  pub bytes : little_bytes (size_bytes size) n ≡ little_bytes (size_bytes size) (cast_unsigned w128 z)

-- the bytes and the bits of a size
record IsSize (size : IntSize) : Type 0 where
  some : 0 < size_bytes size
  few : size_bytes size ≤ 16
  bits : 8 * size_bytes size ≡ size_bits size

sized : (size : IntSize) → IsSize size
sized W8 = record { some = omega arith; few = omega arith; bits = refl }
sized W16 = record { some = omega arith; few = omega arith; bits = refl }
sized W32 = record { some = omega arith; few = omega arith; bits = refl }
sized W64 = record { some = omega arith; few = omega arith; bits = refl }
sized W128 = record { some = omega arith; few = omega arith; bits = refl }
sized Native = record { some = omega arith; few = omega arith; bits = refl }

pub small_bits : (size : IntSize) (n : ℕ) → n < 256 ^ size_bytes size → n < 2 ^ size_bits size
small_bits size n h = subst (λ (bits : ℕ). n < 2 ^ bits) (sized size).bits (subst (λ (m : ℕ). n < m) (same_power (size_bytes size)) h)

pub signed_test : (bits : ℕ) (z : ℤ) → IsSigned bits z → is_signed bits z ≡ true
signed_test bits (pos n) h = lt-ltb n (2 ^ (bits - 1)) h
signed_test bits (negsuc n) h = lt-ltb n (2 ^ (bits - 1)) h

-- from the sign bit on a number stands for one below 0
below : (bits x : ℕ) → x < 2 ^ bits → pos x -ℤ pos (2 ^ bits) ≡ negsuc (2 ^ bits - suc x)
below bits x lt = omega (arith, ints, lt)

back_by : (bits x : ℕ) (b : Bool) → x < 2 ^ bits → printed_complement bits (if b then pos x else pos x -ℤ pos (2 ^ bits)) ≡ x
back_by bits x true lt = refl
back_by bits x false lt = ap (printed_complement bits) (below bits x lt) ∙ omega (arith, lt)

pub complement_is : (size : IntSize) (n : ℕ) → n < 256 ^ size_bytes size → IsComplement size n (twos_complement (size_bytes size) n)
complement_is size n small =
    let k : ℕ = size_bytes size in
    let z : ℤ = twos_complement k n in
    let s = sized size in
    let t = twos k n s.some s.few small in
    let lt : n < 2 ^ (8 * k) = subst (λ (m : ℕ). n < m) (same_power k) small in
    record {
      signed = subst (λ (bits : ℕ). IsSigned bits z) s.bits t.signed;
      back = subst (λ (bits : ℕ). printed_complement bits z ≡ n) s.bits (back_by (8 * k) n (nat_lt n (2 ^ (8 * k - 1))) lt);
      bytes = t.bytes;
    }
