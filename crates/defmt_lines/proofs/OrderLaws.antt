-- Orders in a list of a fixed length, of which the first so many count.
use Rattle.std.proofs.Common.{◌≡◌, ℕ, zero, suc, ◌+◌, ◌<◌, ◌≤◌, List, [], ◌∷◌, ◌++◌, length, refl, sym, ap, ◌∙◌, subst, arith, take}
use Rattle.std.specs.Prelude.{slice_set}
use Rattle.std.proofs.lemmas.List.{length-take}
use Rattle.defmt_hooks.specs.declared.level.Level.{Level}

pub count_is : (xs : List (ℕ × Level)) (n : ℕ) → n ≤ length xs → length (take n xs) ≡ n
count_is xs n within = omega (arith, length-take n xs, within)

one_more : (xs : List (ℕ × Level)) (n : ℕ) (x : ℕ × Level) → n < length xs → take (suc n) (slice_set xs n x) ≡ take n xs ++ x ∷ []
one_more [] n x below = absurd (omega (arith, below))
one_more (y ∷ xs) zero x below = refl
one_more (y ∷ xs) (suc n) x below = ap (λ (l : List (ℕ × Level)). y ∷ l) (one_more xs n x (omega (arith, below)))

pub extended : (xs : List (ℕ × Level)) (n at : ℕ) (seen : List (ℕ × Level)) (x : ℕ × Level) → take n xs ≡ seen → n ≤ 64 → length xs ≡ 64 → at ≡ length seen → at < 64
    → take (at + 1) (slice_set xs at x) ≡ seen ++ x ∷ []
extended xs n at seen x e within full is below =
    let count : length (take n xs) ≡ n = count_is xs n (omega (arith, within, full)) in
    let long : length (take n xs) ≡ length seen = ap length e in
    let next : suc n ≡ n + 1 = omega arith in
    let same : at ≡ n = omega (arith, is, count, long) in
    subst (λ (k : ℕ). take (k + 1) (slice_set xs k x) ≡ seen ++ x ∷ []) (sym same)
    (subst (λ (k : ℕ). take k (slice_set xs n x) ≡ take n xs ++ x ∷ []) next (one_more xs n x (omega (arith, same, below, full))) ∙ ap (λ (l : List (ℕ × Level)). l ++ x ∷ []) e)
