-- The first zero of bytes, found among the first of them.
use Rattle.std.proofs.Common.{◌≡◌, ℕ, ◌≤◌, ◌<◌, ◌==◌, not, true, false, List, ◌++◌, ◌+◌, length, get_or, take, drop, ap, subst, sym, ◌∙◌, arith, eqb-true, eq-eqb}
use Rattle.std.proofs.lemmas.Bool.{not-true, not-false}
use Rattle.std.proofs.lemmas.List.{length-take-le, length-drop, get_or-take, get_or-drop}
use Rattle.std.proofs.lemmas.List.Sums.{prefix_len-le-length, prefix_len_passes, prefix_len_stops}
use Rattle.std.proofs.Math.Seq.{take-add}
use Rattle.std.specs.List.{prefix_len}
use Rattle.defmt_framing.specs.Cut.{has_zero}
use Rattle.defmt_framing.proofs.Cutting.{has_zero-none}
use Rattle.defmt_framing.proofs.Standing.{none_before}

module _ (bytes : List ℕ) (near : ℕ) (room : 16 ≤ length bytes) (is : near ≡ prefix_len (λ b. not (b == 0)) (take 16 bytes)) where
  long : length (take 16 bytes) ≡ 16
  long = length-take-le 16 bytes room

  pub few : near ≤ 16
  few = omega (arith, is, long, prefix_len-le-length (λ (b : ℕ). not (b == 0)) (take 16 bytes))

  pub none : has_zero (take near bytes) ≡ false
  none = none_before bytes near (omega (arith, few)) (λ k h zero.
      let at = get_or-take 16 bytes k 0 (omega (arith, few)) in
      let other : (get_or bytes k 0 == 0) ≡ false = subst (λ (b : ℕ). (b == 0) ≡ false) at (not-true _ (prefix_len_passes (λ (b : ℕ). not (b == 0)) (take 16 bytes) k 0 (omega (arith, is)))) in
      absurd (cc (sym other ∙ eq-eqb _ 0 zero)))

  pub here : near < 16 → get_or bytes near 0 ≡ 0
  here short =
      let at = ap (λ (k : ℕ). get_or (take 16 bytes) k 0) (sym is) ∙ get_or-take 16 bytes near 0 short in
      eqb-true _ _ (subst (λ (b : ℕ). (b == 0) ≡ true) at (not-false _ (prefix_len_stops (λ (b : ℕ). not (b == 0)) (take 16 bytes) 0 (omega (arith, is, long)))))

-- where the first sixteen have none, among the next sixteen
module _ (bytes rest : List ℕ) (more : ℕ) (room : 32 ≤ length bytes) (front : 16 ≡ prefix_len (λ b. not (b == 0)) (take 16 bytes)) (behind : rest ≡ drop 16 bytes)
    (is : more ≡ prefix_len (λ b. not (b == 0)) (take 16 rest)) where
  behind_room : 16 ≤ length rest
  behind_room = omega (arith, ap length behind, length-drop 16 bytes)

  pub none_more : has_zero (take (16 + more) bytes) ≡ false
  none_more =
      ap has_zero (take-add 16 more bytes ∙ ap (λ (l : List ℕ). take 16 bytes ++ take more l) (sym behind))
      ∙ has_zero-none (take 16 bytes) (take more rest) (none bytes 16 (omega arith) front) ∙ none rest more behind_room is

  pub here_more : more < 16 → get_or bytes (16 + more) 0 ≡ 0
  here_more short = sym (get_or-drop 16 bytes more 0) ∙ ap (λ (l : List ℕ). get_or l more 0) (sym behind) ∙ here rest more behind_room is short
