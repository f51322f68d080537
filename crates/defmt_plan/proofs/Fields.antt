-- A field of a number of which some bytes are sent.
use Rattle.std.proofs.Common.{◌≡◌, ◌<◌, ◌≤◌, ◌+◌, ◌-◌, ◌*◌, ◌/◌, ◌%◌, ◌^◌, ℕ, List, Option, Some, None, sym, ap, subst, ◌∙◌, arith, pow-add, lit<}
use Rattle.std.proofs.Math.Nat.{one-le-pow, pow-le-pow_right, div-div-eq-div-mul, mul-div_cancel, mod-eq_of_lt}
use Rattle.byteorder.specs.Endian.{little_bytes}
use Rattle.defmt_grammar.specs.declared.hint.Hint.{Hint}
use Rattle.defmt_hints.proofs.Utf8Laws.{utf8_uint}
use Rattle.defmt_hints.specs.Printed.{printed_uint}
use Rattle.defmt_hints.specs.Written.{Writes}
use Rattle.defmt_encode.proofs.Signed.{same_power}
use Rattle.defmt_eager.proofs.Parts.{placed}
use Rattle.defmt_eager.specs.Answers.{Placed}
use Rattle.defmt_plan.specs.Carried.{Carried}
use Rattle.defmt_plan.specs.Passed.{PassesField}
use Rattle.defmt_plan.specs.declared.bits.Field.{Field}
use Rattle.defmt_plan.specs.declared.leaves.Progress.{Progress}

pub all_below : (n count : ℕ) → n < 2 ^ 64 → 64 ≤ count → n ≡ n % 2 ^ count
all_below n count small many =
    let p : 2 ^ 64 ≤ 2 ^ count = pow-le-pow_right (lit< tt) many in
    sym (mod-eq_of_lt (let lt : n < 2 ^ count = omega (arith, small, p) in lt))

pub shifted : (sent first lo d : ℕ) → lo ≡ 8 * first + d → sent / 2 ^ d ≡ sent * 256 ^ first / 2 ^ lo
shifted sent first lo d e =
    let unsent : ℕ = 2 ^ (8 * first) in
    let pos : 0 < 2 ^ (8 * first) = let p : 1 ≤ 2 ^ (8 * first) = one-le-pow (8 * first) 2 (lit< tt) in omega (arith, p) in
    sym (ap (λ (k : ℕ). sent * k / 2 ^ lo) (same_power first) ∙ ap (λ (k : ℕ). sent * unsent / 2 ^ k) e ∙ ap (λ (k : ℕ). sent * unsent / k) (pow-add 2 (8 * first) d)
    ∙ sym (div-div-eq-div-mul (sent * unsent) unsent (2 ^ d)) ∙ ap (λ (k : ℕ). k / 2 ^ d) (mul-div_cancel sent pos))

-- the field as it is written
pub field_by : (r : Option ℕ) (field : Field) (hint : Hint) (bytes : List ℕ) (before : Progress) (old new : List ℕ) (sent n : ℕ) → sent < 256 ^ field.width → Carried bytes before.read (before.read + field.width) (little_bytes field.width sent)
    → n ≡ sent * 256 ^ field.first / 2 ^ field.lo % 2 ^ (field.hi - field.lo) → Writes r old before.written new (printed_uint n hint) → PassesField r field hint bytes before old new
field_by None field hint bytes before old new sent n small c e f = f.kept
field_by (Some end) field hint bytes before old new sent n small c e w = record {
  sent = sent;
  small = small;
  carried = c;
  written = subst (λ (m : ℕ). Placed old before.written new end (printed_uint m hint)) e (placed (utf8_uint n hint) w);
}
