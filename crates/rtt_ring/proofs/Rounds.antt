-- Bytes taken round the end of a buffer.
use Rattle.std.proofs.Common.{◌≡◌, ◌∙◌, ℕ, zero, suc, ◌+◌, ◌%◌, ◌<◌, ◌≤◌, List, [], ◌∷◌, ◌++◌, length, take, drop, get_or, slice_index, refl, sym, ap, arith, append-nil}
use Rattle.std.proofs.Math.Nat.{mod-add-mod, mod-mod}
use Rattle.rtt_control.specs.Layout.{round}
use Rattle.rtt_control.proofs.RoundLemmas.{round_join, round_part, round_turn}

pub length_round : (b : List ℕ) (z at n : ℕ) → length (round b z at n) ≡ n
length_round b z at zero = refl
length_round b z at (suc n) = ap suc (length_round b z (at + 1) n)

-- two buffers with the same bytes at the places
pub round_kept : (b b' : List ℕ) (z at n : ℕ) → ((j : ℕ) → j < n → get_or b' ((at + j) % z) 0 ≡ get_or b ((at + j) % z) 0) → round b' z at n ≡ round b z at n
round_kept b b' z at zero h = refl
round_kept b b' z at (suc n) h =
    let none : at + 0 ≡ at = omega arith in
    let first : get_or b' (at % z) 0 ≡ get_or b (at % z) 0 =
    ap (λ (k : ℕ). get_or b' (k % z) 0) (sym none) ∙ h 0 (omega arith) ∙ ap (λ (k : ℕ). get_or b (k % z) 0) none in
    let rest : (j : ℕ) → j < n → get_or b' ((at + 1 + j) % z) 0 ≡ get_or b ((at + 1 + j) % z) 0 =
    λ j l. let e : at + suc j ≡ at + 1 + j = omega arith in
    ap (λ (k : ℕ). get_or b' (k % z) 0) (sym e) ∙ h (suc j) (omega arith) ∙ ap (λ (k : ℕ). get_or b (k % z) 0) e in
    ap (λ (y : ℕ). y ∷ round b' z (at + 1) n) first ∙ ap (λ (l : List ℕ). get_or b (at % z) 0 ∷ l) (round_kept b b' z (at + 1) n rest)

-- a buffer with these bytes at the places
pub round_is : (b : List ℕ) (z at : ℕ) (bs : List ℕ) → ((j : ℕ) → j < length bs → get_or b ((at + j) % z) 0 ≡ get_or bs j 0) → round b z at (length bs) ≡ bs
round_is b z at [] h = refl
round_is b z at (x ∷ bs) h =
    let none : at ≡ at + 0 = omega arith in
    let first : get_or b (at % z) 0 ≡ x = ap (λ (k : ℕ). get_or b (k % z) 0) none ∙ h 0 (omega arith) in
    let rest : (j : ℕ) → j < length bs → get_or b ((at + 1 + j) % z) 0 ≡ get_or bs j 0 =
    λ j l. let e : at + 1 + j ≡ at + suc j = omega arith in ap (λ (k : ℕ). get_or b (k % z) 0) e ∙ h (suc j) (omega arith) in
    ap (λ (y : ℕ). y ∷ round b z (at + 1) (length bs)) first ∙ ap (λ (l : List ℕ). x ∷ l) (round_is b z (at + 1) bs rest)

-- nothing is there only where no byte is
pub none_there : (b : List ℕ) (z at n : ℕ) → round b z at n ≡ [] → n ≡ 0
none_there b z at n e = sym (length_round b z at n) ∙ ap length e

-- the bytes depend on the place's residue alone
round_same : (b : List ℕ) (z at at' n : ℕ) → at % z ≡ at' % z → round b z at n ≡ round b z at' n
round_same b z at at' zero e = refl
round_same b z at at' (suc n) e =
    let next : (at + 1) % z ≡ (at' + 1) % z = sym (mod-add-mod at z 1) ∙ ap (λ (k : ℕ). (k + 1) % z) e ∙ mod-add-mod at' z 1 in
    ap (λ (k : ℕ). slice_index b k ∷ round b z (at + 1) n) e ∙ ap (λ (l : List ℕ). slice_index b (at' % z) ∷ l) (round_same b z (at + 1) (at' + 1) n next)

pub round_mod : (b : List ℕ) (z at n : ℕ) → round b z (at % z) n ≡ round b z at n
round_mod b z at n = round_same b z (at % z) at n (mod-mod at z)

-- the two runs of the bytes: up to the buffer's end, and from its front
pub round_runs : (b : List ℕ) (z at n m : ℕ) → z ≤ length b → at + n ≤ z → m ≤ z → (0 < m → at + n ≡ z) → take n (drop at b) ++ take m b ≡ round b z at (n + m)
round_runs b z at n zero w h l e =
    let none : n ≡ n + 0 = omega arith in
    append-nil (take n (drop at b)) ∙ sym (round_part b z at n h w) ∙ ap (λ (k : ℕ). round b z at k) none
round_runs b z at n (suc m) w h l e =
    let turn : 0 + z ≡ at + n = let k = e (omega arith) in omega arith in
    let back : take (suc m) b ≡ round b z (at + n) (suc m) =
    sym (round_part b z 0 (suc m) (omega arith) w) ∙ sym (round_turn b z 0 (suc m)) ∙ ap (λ (k : ℕ). round b z k (suc m)) turn in
    ap (λ (l : List ℕ). l ++ take (suc m) b) (sym (round_part b z at n h w))
    ∙ ap (λ (l : List ℕ). round b z at n ++ l) back ∙ sym (round_join b z at n (suc m))
