-- What a list of counts tells of each writer.
use Rattle.std.proofs.Common.{◌≡◌, ℕ, zero, suc, ◌+◌, ◌<◌, ◌≤◌, List, [], ◌∷◌, ◌++◌, Bool, true, false, ◌==◌, length, refl, sym, ap, ◌∙◌, subst, inl, inr, arith, if◌then◌else◌, slice_index_or, slice_set, replicate, get_or-set_same, get_or-set_other}
use Rattle.std.specs.Prelude.{nat_le}
use Rattle.std.proofs.lemmas.Bool.Decides.{eqb_tells, nat_tests}
use Rattle.shared_work.specs.Places.{AreConsecutive}

-- one more at n
pub raised : (xs : List ℕ) (n w : ℕ) → (n ≡ w → n < length xs) → slice_index_or (slice_set xs n (slice_index_or xs n 0 + 1)) w 0 ≡ slice_index_or xs w 0 + (if n == w then 1 else 0)
raised xs n w there =
    let more : ℕ = slice_index_or xs n 0 + 1 in
    let at : Bool → ℕ = λ b. slice_index_or xs w 0 + (if b then 1 else 0) in
    let none : slice_index_or xs w 0 ≡ slice_index_or xs w 0 + 0 = omega arith in
    elim (eqb_tells n w) [
      | inl s ↦ subst (λ (k : ℕ). slice_index_or (slice_set xs n more) k 0 ≡ slice_index_or xs k 0 + 1) s.1 (get_or-set_same xs n more 0 (there s.1)) ∙ ap at (sym s.0)
      | inr s ↦ get_or-set_other xs n w more 0 (λ j. s.1 (sym j)) ∙ none ∙ ap at (sym s.0)
    ]

-- a writer's step is counted in its book, by the number n or m
pub stepped : (xs ys : List ℕ) (n m w d e : ℕ) → n < length xs → ys ≡ slice_set xs n (slice_index_or xs n 0 + 1) → slice_index_or xs w 0 ≡ d → m ≡ n → e ≡ d + (if m == w then 1 else 0) → slice_index_or ys w 0 ≡ e
stepped xs ys n m w d e there set counted same done =
    ap (λ (l : List ℕ). slice_index_or l w 0) set ∙ raised xs n w (λ _. there)
    ∙ ap (λ (k : ℕ). k + (if n == w then 1 else 0)) counted
    ∙ ap (λ (k : ℕ). d + (if k == w then 1 else 0)) (sym same) ∙ sym done

-- eight counts of 0 tell 0 of each writer
pub all_zero : (a b c d e f g h : ℕ) → a ≡ 0 → b ≡ 0 → c ≡ 0 → d ≡ 0 → e ≡ 0 → f ≡ 0 → g ≡ 0 → h ≡ 0 → (w : ℕ) → slice_index_or (a ∷ b ∷ c ∷ d ∷ e ∷ f ∷ g ∷ h ∷ []) w 0 ≡ 0
all_zero a b c d e f g h ea eb ec ed ee ef eg eh zero = ea
all_zero a b c d e f g h ea eb ec ed ee ef eg eh (suc zero) = eb
all_zero a b c d e f g h ea eb ec ed ee ef eg eh (suc (suc zero)) = ec
all_zero a b c d e f g h ea eb ec ed ee ef eg eh (suc (suc (suc zero))) = ed
all_zero a b c d e f g h ea eb ec ed ee ef eg eh (suc (suc (suc (suc zero)))) = ee
all_zero a b c d e f g h ea eb ec ed ee ef eg eh (suc (suc (suc (suc (suc zero))))) = ef
all_zero a b c d e f g h ea eb ec ed ee ef eg eh (suc (suc (suc (suc (suc (suc zero)))))) = eg
all_zero a b c d e f g h ea eb ec ed ee ef eg eh (suc (suc (suc (suc (suc (suc (suc zero))))))) = eh
all_zero a b c d e f g h ea eb ec ed ee ef eg eh (suc (suc (suc (suc (suc (suc (suc (suc w)))))))) = refl

-- zeros tell 0 of each writer
pub zeros : (n w : ℕ) → ◌≡◌ {A = ℕ} (slice_index_or (replicate n 0) w 0) 0
zeros zero w = refl
zeros (suc n) zero = refl
zeros (suc n) (suc w) = zeros n w

-- ---- what the steps of the writers from w on count, by those of w and those behind

pub one_more : (w x a b c : ℕ) → a ≡ b + c → (if nat_le w x then a + 1 else a) ≡ (if x == w then b + 1 else b) + (if nat_le (w + 1) x then c + 1 else c)
one_more w x a b c e = grind (arith, nat_tests)

pub none_there : (w x a b : ℕ) → (w ≤ x → (if x == x then b + 1 else b) ≤ 0) → a ≤ 0 → (if nat_le w x then a + 1 else a) ≤ 0
none_there w x a b none le = grind (arith, nat_tests)

pub grows : (v x n : ℕ) → n ≤ (if x == v then n + 1 else n)
grows v x n = elim (x == v) as (λ (b : Bool). n ≤ (if b then n + 1 else n)) [ true ↦ omega arith | false ↦ omega arith ]

-- ---- places one after another

pub consecutive-snoc : (a : ℕ) (xs : List ℕ) (k : ℕ) → AreConsecutive a xs → k ≡ a + length xs → AreConsecutive a (xs ++ k ∷ [])
consecutive-snoc a [] k h e = (omega (arith, e), tt)
consecutive-snoc a (x ∷ xs) k h e = (h.0, consecutive-snoc (a + 1) xs k h.1 (omega (arith, e)))
