-- The codes of messages.
use Rattle.std.proofs.Common.{◌≡◌, ◌≢◌, ℕ, zero, suc, List, [], ◌∷◌, map, All, false, refl, arith}
use Rattle.rzcobs_core.specs.Canon.{canon}
use Rattle.rzcobs_core.proofs.Backwards.{NoZero-blocks}
use Rattle.rzcobs_core.proofs.Greedy.{canon_stands}
use Rattle.rzcobs_core.proofs.Sizes.{some_canon}
use Rattle.defmt_framing.specs.Cut.{has_zero}
use Rattle.defmt_framing.specs.Frames.{AreCodes, AreSome}

pub no_zero : (xs : List ℕ) → All (λ b. b ≢ 0) xs → has_zero xs ≡ false
unfolding has_zero
no_zero [] non = refl
no_zero (zero ∷ xs) non = absurd (non 0 0 (omega arith) refl)
no_zero (suc x ∷ xs) non = no_zero xs (λ k d h. non (suc k) d (omega arith))

pub lacks_zero : (xs : List ℕ) → has_zero xs ≡ false → All (λ b. b ≢ 0) xs
unfolding has_zero
lacks_zero [] none k d within = absurd (omega (arith, within))
lacks_zero (zero ∷ xs) none k d within = absurd (cc none)
lacks_zero (suc x ∷ xs) none zero d within = λ is. absurd (omega (arith, is))
lacks_zero (suc x ∷ xs) none (suc k) d within = lacks_zero xs none k d (omega (arith, within))

pub codes : (messages : List (List ℕ)) → AreSome messages → AreCodes (map canon messages)
codes [] some = tt
codes (m ∷ messages) some =
    let s = canon_stands m in
    (no_zero (canon m) (NoZero-blocks _ _ s.2), some_canon m some.0, codes messages some.1)
