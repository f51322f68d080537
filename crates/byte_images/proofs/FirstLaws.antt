-- Checks in an order.
use Rattle.std.proofs.Common.{◌≡◌, ◌≤◌, inl, inr, sym, arith}
use Rattle.std.proofs.lemmas.Bool.{cases_lt}
use Rattle.byte_images.specs.First.{Place, Before, FirstToFail}

-- the first check that fails is one, where two checks with one place are one
pub one_first_check : {C : Type 0} {spot : C → Place} {P : C → Type 0} → ((a b : C) → (spot a).row ≡ (spot b).row → (spot a).index ≡ (spot b).index → a ≡ b) → (a b : C) → FirstToFail spot P a → FirstToFail spot P b → a ≡ b
one_first_check {spot = spot} same a b x y =
    let not_before : Before (spot a) (spot b) → ⊥ = λ h. x.fails (y.earlier a h) in
    let not_after : Before (spot b) (spot a) → ⊥ = λ h. y.fails (x.earlier b h) in
    let row_le : (spot b).row ≤ (spot a).row = elim (cases_lt (spot a).row (spot b).row) [ inl l ↦ absurd (not_before (inl l)) | inr le ↦ le ] in
    let row_ge : (spot a).row ≤ (spot b).row = elim (cases_lt (spot b).row (spot a).row) [ inl l ↦ absurd (not_after (inl l)) | inr le ↦ le ] in
    let row : (spot a).row ≡ (spot b).row = omega arith in
    let index_le : (spot b).index ≤ (spot a).index = elim (cases_lt (spot a).index (spot b).index) [ inl l ↦ absurd (not_before (inr (row, l))) | inr le ↦ le ] in
    let index_ge : (spot a).index ≤ (spot b).index = elim (cases_lt (spot b).index (spot a).index) [ inl l ↦ absurd (not_after (inr (sym row, l))) | inr le ↦ le ] in
    let index : (spot a).index ≡ (spot b).index = omega arith in
    same a b row index
