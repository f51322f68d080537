-- Items and fronts of lists.
use Rattle.std.proofs.Common.{◌≡◌, ◌⊎◌, ℕ, zero, suc, ◌+◌, ◌<◌, List, [], ◌∷◌, ◌++◌, length, get_or, sym, refl, ap, ◌∙◌, subst, inl, inr, ⊎_elim, append_assoc, append-nil, length-append, arith}
use Rattle.std.specs.Prelude.{slice_index}
use mathlib.Core.Option.{some, some-injective, some-ne-none}
use lib.ListN.{get_elem?}
use Rattle.atomic_table.proofs.Lists.{at_longer, at_last}
use Rattle.rtt_words.specs.WordRule.{StartsWith, lanes}

-- a word has eight bytes
pub lanes_long : (w : ℕ) → length (lanes w) ≡ 8
unfolding lanes
lanes_long w = refl

module _ {A : Type 0} where
  pub there : (l : List A) (i : ℕ) (a : A) → get_elem? l i ≡ some a → i < length l
  there [] i a e = absurd (some-ne-none a (sym e))
  there (x ∷ xs) zero a e = omega arith
  there (x ∷ xs) (suc i) a e = let h = there xs i a e in omega arith

  -- an item of a longer list is an item of the list, or the last
  pub snoc_cases : (l : List A) (a b : A) (j : ℕ) → get_elem? (l ++ a ∷ []) j ≡ some b → ((j < length l) × (get_elem? l j ≡ some b)) ⊎ ((j ≡ length l) × (a ≡ b))
  snoc_cases [] a b zero e = inr (refl, some-injective a b e)
  snoc_cases [] a b (suc j) e = absurd (some-ne-none b (sym e))
  snoc_cases (x ∷ xs) a b zero e = inl (omega arith, e)
  snoc_cases (x ∷ xs) a b (suc j) e = ⊎_elim (λ (t : (j < length xs) × (get_elem? xs j ≡ some b)). let h = t.0 in inl (omega arith, t.1)) (λ (t : (j ≡ length xs) × (a ≡ b)). inr (ap suc t.0, t.1)) (snoc_cases xs a b j e)

  -- an item of two lists is one of the first, or one of the second
  pub append_cases : (l m : List A) (b : A) (j : ℕ) → get_elem? (l ++ m) j ≡ some b → ((j < length l) × (get_elem? l j ≡ some b)) ⊎ ((t : ℕ) × (j ≡ length l + t) × (get_elem? m t ≡ some b))
  append_cases [] m b j e = inr (j, omega arith, e)
  append_cases (x ∷ xs) m b zero e = inl (omega arith, e)
  append_cases (x ∷ xs) m b (suc j) e = ⊎_elim (λ (t : (j < length xs) × (get_elem? xs j ≡ some b)). let h = t.0 in inl (omega arith, t.1)) (λ (t : (k : ℕ) × (j ≡ length xs + k) × (get_elem? m k ≡ some b)). let h = t.1 in inr (t.0, omega arith, t.2)) (append_cases xs m b j e)

  -- an item, as it is read
  pub read_as : (l : List A) (i : ℕ) (a d : A) → get_elem? l i ≡ some a → get_or l i d ≡ a
  read_as [] i a d e = absurd (some-ne-none a (sym e))
  read_as (x ∷ xs) zero a d e = some-injective x a e
  read_as (x ∷ xs) (suc i) a d e = read_as xs i a d e

  -- an item of a front
  pub front_at : (l m : List A) (i : ℕ) → i < length l → (a : A) × (get_elem? l i ≡ some a) × (get_elem? (l ++ m) i ≡ some a)
  front_at [] m i h = absurd (omega arith)
  front_at (x ∷ xs) m zero h = (x, refl, refl)
  front_at (x ∷ xs) m (suc i) h = front_at xs m i (omega arith)

-- one more byte of a front
pub longer_front : (ys xs : List ℕ) (b : ℕ) → StartsWith ys xs → get_elem? ys (length xs) ≡ some b → StartsWith ys (xs ++ b ∷ [])
longer_front ys xs b f at = by_rest f.0 f.1
  where
    by_rest : (rest : List ℕ) → ys ≡ xs ++ rest → StartsWith ys (xs ++ b ∷ [])
    by_rest [] e = absurd (let h = there ys (length xs) b at in let k : length ys ≡ length xs = ap length e ∙ ap length (append-nil xs) in omega arith)
    by_rest (c ∷ cs) e =
        let here : get_elem? ((xs ++ c ∷ []) ++ cs) (length xs) ≡ some c = at_longer (xs ++ c ∷ []) cs (length xs) c (at_last xs c (length xs) refl) in
        let whole : (xs ++ c ∷ []) ++ cs ≡ ys = append_assoc xs (c ∷ []) cs ∙ sym e in
        let same : c ≡ b = some-injective c b (sym here ∙ ap (λ (l : List ℕ). get_elem? l (length xs)) whole ∙ at) in
        (cs, sym whole ∙ ap (λ (x : ℕ). (xs ++ x ∷ []) ++ cs) same)

-- more bytes of a front
pub longer_fronts : (ys xs bs : List ℕ) → StartsWith ys xs → ((t : ℕ) → t < length bs → get_elem? ys (length xs + t) ≡ some (slice_index bs t)) → StartsWith ys (xs ++ bs)
longer_fronts ys xs [] f at = subst (StartsWith ys) (sym (append-nil xs)) f
longer_fronts ys xs (b ∷ bs) f at =
    let one = longer_front ys xs b f (subst (λ (n : ℕ). get_elem? ys n ≡ some b) (omega arith) (at 0 (omega arith))) in
    let more = longer_fronts ys (xs ++ b ∷ []) bs one (λ t h. subst (λ (n : ℕ). get_elem? ys n ≡ some (slice_index bs t)) (omega (arith, length-append xs (b ∷ []))) (at (suc t) (omega arith))) in
    subst (StartsWith ys) (append_assoc xs (b ∷ []) bs) more
