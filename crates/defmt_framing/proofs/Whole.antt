-- A piece that stands whole in bytes stands in one place.
use Rattle.std.proofs.Common.{◌≡◌, ◌≢◌, inl, inr, ℕ, ◌+◌, ◌<◌, List, length, get_or, take, drop, replicate, false, sym, ◌∙◌, subst, arith, length-take, length-drop}
use Rattle.std.proofs.lemmas.Bool.{cases_eq, cases_lt}
use Rattle.std.proofs.lemmas.List.{get_or-drop, get_or-replicate, get_or-take}
use Rattle.defmt_framing.specs.Cut.{has_zero}
use Rattle.defmt_framing.specs.Framing.{Framing}
use Rattle.defmt_framing.specs.Wholes.{IsWhole}
use Rattle.defmt_framing.proofs.FrameCodes.{lacks_zero}

-- a byte among zeros
zero_at : (xs : List ℕ) (n k : ℕ) → take n xs ≡ replicate n 0 → k < n → get_or xs k 0 ≡ 0
zero_at xs n k zeros below =
    sym (get_or-take n xs k 0 below) ∙ subst (λ (l : List ℕ). get_or l k 0 ≡ 0) (sym zeros) (get_or-replicate n k 0 0 below)

-- a byte among others
other_at : (xs : List ℕ) (n k : ℕ) → has_zero (take n xs) ≡ false → k < n → k < length xs → get_or xs k 0 ≢ 0
other_at xs n k none below within is =
    lacks_zero (take n xs) none k 0 (omega (arith, length-take n xs)) (get_or-take n xs k 0 below ∙ is)

module _ (framer : Framing) (bytes : List ℕ) (start size other count : ℕ) (w : IsWhole framer bytes other count) where
  -- behind all zeros
  pub same_start : take start bytes ≡ replicate start 0 → (start < length bytes → get_or bytes start 0 ≢ 0) → other ≡ start
  same_start zeros next = elim (cases_eq other start) [
    | inl is ↦ is
    | inr not ↦ elim (cases_lt other start) [
      | inl before ↦
          absurd (other_at (drop other bytes) count 0 w.none w.some (omega (arith, length-drop other bytes, w.within))
          (get_or-drop other bytes 0 0 ∙ zero_at bytes start (other + 0) zeros (omega arith)))
      | inr behind ↦ absurd (next (omega (arith, w.within)) (zero_at bytes other start w.zeros (omega (arith, not, behind))))
    ]
  ]

  -- as far as the next zero
  pub same_size : other ≡ start → has_zero (take size (drop start bytes)) ≡ false
      → (size < length (drop start bytes) → get_or (drop start bytes) size 0 ≡ 0) → count ≡ size
  same_size same none next =
      let rest : List ℕ = drop other bytes in
      let other_none : has_zero (take size rest) ≡ false = subst (λ (k : ℕ). has_zero (take size (drop k bytes)) ≡ false) (sym same) none in
      let other_next : size < length rest → get_or rest size 0 ≡ 0 = subst (λ (k : ℕ). size < length (drop k bytes) → get_or (drop k bytes) size 0 ≡ 0) (sym same) next in
      elim (cases_eq count size) [
        | inl is ↦ is
        | inr not ↦ elim (cases_lt count size) [
          | inl before ↦ absurd (other_at rest size count other_none before (omega (arith, length-drop other bytes, w.within)) w.zero)
          | inr behind ↦
              absurd (other_at rest count size w.none (omega (arith, not, behind)) (omega (arith, not, behind, length-drop other bytes, w.within))
              (other_next (omega (arith, not, behind, length-drop other bytes, w.within))))
        ]
      ]
