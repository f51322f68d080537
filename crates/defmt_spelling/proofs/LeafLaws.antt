-- Numbers outside a window.
use Rattle.std.proofs.Common.{◌≡◌, ◌≤◌, ◌+◌, ◌^◌, nat_lt, false, ℕ, refl, arith, lit<, lit≤}
use Rattle.std.proofs.Math.Nat.{pow-le-pow_right}
use Rattle.std.proofs.lemmas.Bool.{le-ltb}
use Rattle.std.proofs.Common.{Err, subst}
use Rattle.defmt_grammar.specs.Slots.{IsSound}
use Rattle.defmt_grammar.specs.declared.slot.Slot.{Slot}
use Rattle.defmt_grammar.specs.declared.slot.Slot.TheVariants.{Bits}
use Rattle.defmt_shapes.specs.Spelling.{Holds}
use Rattle.defmt_shapes.specs.declared.number.Number.{Number}
use Rattle.defmt_shapes.specs.declared.number.Number.TheVariants.{Above}
use Rattle.defmt_spelling.specs.Reading.{GivesLeaf}
use Rattle.defmt_spelling.specs.declared.fault.ArgFault.{ArgFault}
use Rattle.defmt_spelling.specs.declared.fault.ArgFault.TheVariants.{Refused}
use Rattle.defmt_values.specs.Plain.{bits}
use Rattle.defmt_values.specs.Scan.{bits_cause}

-- a number of more than 128 bits doesn't fit 16 bytes
pub too_wide : (n bytes : ℕ) → bytes ≤ 16 → 2 ^ 128 ≤ n → nat_lt n (256 ^ bytes) ≡ false
too_wide n bytes h k = let p : 256 ^ bytes ≤ 256 ^ 16 = pow-le-pow_right (lit< tt) h in let q : 256 ^ 16 ≤ 2 ^ 128 = lit≤ tt in le-ltb n (256 ^ bytes) (omega (arith, p, q, k))

pub wide_bits : (number : Number) (slot : Slot) (first width n : ℕ) (fault : ArgFault) → number ≡ Above → IsSound slot → slot ≡ Bits first width → fault ≡ Refused 4 → Holds number n → GivesLeaf (Err fault) (bits n) (bits_cause slot n)
wide_bits number slot first width n fault above sound is refused h =
    let s : first + width ≤ 16 = subst IsSound is sound in
    let k : 2 ^ 128 ≤ n = subst (λ (x : Number). Holds x n) above h in
    rw (refused, is, too_wide n (first + width) s k) refl
