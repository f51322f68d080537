-- A gap between the places of two marks counts those between them.
use Rattle.std.proofs.Common.{◌≡◌, ℕ, ◌+◌, ◌-◌, ◌%◌, ◌<◌, sym, ap, ◌∙◌, arith, inl, inr}
use Rattle.std.proofs.Math.Nat.{mod-eq_of_lt, mod-lt, mod-add-mod, add-mod_right}
use Rattle.std.proofs.lemmas.Bool.{cases_lt}
use Rattle.defmt_decode.specs.Gap.{gap_of}

below : (r d : ℕ) → r < 65536 → d < 65536 → ((r + (1 + d)) % 65536 + 65535 - r) % 65536 ≡ d
below r d h g = elim (cases_lt (r + (1 + d)) 65536) [
  | inl lt ↦
      let a : (r + (1 + d)) % 65536 ≡ r + (1 + d) = mod-eq_of_lt lt in
      let b : (r + (1 + d)) % 65536 + 65535 - r ≡ d + 65536 = omega (arith, a) in
      ap (λ (k : ℕ). k % 65536) b ∙ add-mod_right d 65536 ∙ mod-eq_of_lt g
  | inr ge ↦
      let k : ℕ = r + (1 + d) - 65536 in
      let whole : r + (1 + d) ≡ k + 65536 = omega (arith, ge) in
      let small : k < 65536 = omega (arith, h, g) in
      let a : (r + (1 + d)) % 65536 ≡ k = ap (λ (n : ℕ). n % 65536) whole ∙ add-mod_right k 65536 ∙ mod-eq_of_lt small in
      let b : (r + (1 + d)) % 65536 + 65535 - r ≡ d = omega (arith, a, ge) in
      ap (λ (n : ℕ). n % 65536) b ∙ mod-eq_of_lt g
]

-- between the marks number n and n + 1 + d
pub gap_is : (n d : ℕ) → d < 65536 → gap_of (n % 65536) ((n + (1 + d)) % 65536) ≡ d
gap_is n d h =
    let r : ℕ = n % 65536 in
    let less : r < 65536 = mod-lt n (omega arith) in
    let same : (n + (1 + d)) % 65536 ≡ (r + (1 + d)) % 65536 = sym (mod-add-mod n 65536 (1 + d)) in
    ap (λ (k : ℕ). (k + 65535 - r) % 65536) same ∙ below r d less h
