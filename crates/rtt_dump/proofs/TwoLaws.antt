-- Only the first two IDs of a segment count.
use Rattle.std.proofs.Common.{◌≡◌, ◌∙◌, ℕ, ◌+◌, ◌-◌, ◌≤◌, List, [], ◌∷◌, ◌++◌, take, map, refl, sym, ap, subst, arith, inl, inr}
use Rattle.std.specs.Prelude.{Option, Some, None}
use Rattle.std.specs.List.{filter}
use Rattle.std.proofs.lemmas.Bool.{cases_lt, le-leb}
use Rattle.rtt_dump.specs.Ids.{Rises, at_most_one, ends_by, listed, spots}
use Rattle.rtt_dump.specs.declared.ids.Spot.{Spot}
use Rattle.rtt_dump.proofs.PartLemmas.{filter_past}

-- the IDs up to an end, as places in the segment
abbrev pub inside : ℕ → ℕ → ℕ → List ℕ → List Spot
inside n start end places = spots n (map (λ (p : ℕ). p - start) (filter (ends_by end) places))

two_alike : (first : Option Spot) (n a b : ℕ) (xs ys : List ℕ) → at_most_one (listed first ++ spots n (a ∷ b ∷ xs)) ≡ at_most_one (listed first ++ spots n (a ∷ b ∷ ys))
two_alike None n a b xs ys = refl
two_alike (Some spot) n a b xs ys = refl

taken : (end p : ℕ) (places : List ℕ) → p + 16 ≤ end → filter (ends_by end) (p ∷ places) ≡ p ∷ filter (ends_by end) places
taken end p places fits = rw (le-leb (p + 16) end fits) refl

two_heads : (first : Option Spot) (n start end p q : ℕ) (xs ys : List ℕ) → p ≤ q → Rises q xs → Rises q ys
    → at_most_one (listed first ++ inside n start end (p ∷ q ∷ xs)) ≡ at_most_one (listed first ++ inside n start end (p ∷ q ∷ ys))
two_heads first n start end p q xs ys le left right =
    let of = λ (l : List ℕ). at_most_one (listed first ++ spots n (map (λ (p : ℕ). p - start) l)) in
    let self : p ≤ p = omega arith in
    let itself : q ≤ q = omega arith in
    elim (cases_lt end (p + 16)) [
      | inl past ↦ ap of (filter_past end p (p ∷ q ∷ xs) past (self, (le, left)) ∙ sym (filter_past end p (p ∷ q ∷ ys) past (self, (le, right))))
      | inr fits ↦ elim (cases_lt end (q + 16)) [
        | inl past ↦
            let none_left = taken end p (q ∷ xs) fits ∙ ap (λ (l : List ℕ). p ∷ l) (filter_past end q (q ∷ xs) past (itself, left)) in
            let none_right = taken end p (q ∷ ys) fits ∙ ap (λ (l : List ℕ). p ∷ l) (filter_past end q (q ∷ ys) past (itself, right)) in
            ap of (none_left ∙ sym none_right)
        | inr more ↦
            let both_left = taken end p (q ∷ xs) fits ∙ ap (λ (l : List ℕ). p ∷ l) (taken end q xs more) in
            let both_right = taken end p (q ∷ ys) fits ∙ ap (λ (l : List ℕ). p ∷ l) (taken end q ys more) in
            ap of both_left
            ∙ two_alike first n (p - start) (q - start) (map (λ (p : ℕ). p - start) (filter (ends_by end) xs)) (map (λ (p : ℕ). p - start) (filter (ends_by end) ys))
            ∙ ap of (sym both_right)
      ]
    ]

-- where the first two places are the same, the answer is
pub first_two_count : (first : Option Spot) (n start end : ℕ) (xs ys : List ℕ) → take 2 xs ≡ take 2 ys → Rises start xs → Rises start ys
    → at_most_one (listed first ++ inside n start end xs) ≡ at_most_one (listed first ++ inside n start end ys)
first_two_count first n start end [] [] same left right = refl
first_two_count first n start end [] (y ∷ ys) same left right = absurd (cc)
first_two_count first n start end (x ∷ []) [] same left right = absurd (cc)
first_two_count first n start end (x ∷ []) (y ∷ []) same left right = ap (λ (l : List ℕ). at_most_one (listed first ++ inside n start end l)) same
first_two_count first n start end (x ∷ []) (y ∷ y2 ∷ ys) same left right = absurd (cc)
first_two_count first n start end (x ∷ x2 ∷ xs) [] same left right = absurd (cc)
first_two_count first n start end (x ∷ x2 ∷ xs) (y ∷ []) same left right = absurd (cc)
first_two_count first n start end (x ∷ x2 ∷ xs) (y ∷ y2 ∷ ys) same left right =
    let one : x ≡ y = cc in
    let two : x2 ≡ y2 = cc in
    two_heads first n start end x x2 xs ys left.1.0 left.1.1 (subst (λ (q : ℕ). Rises q ys) (sym two) right.1.1)
    ∙ ap (λ (p : ℕ). at_most_one (listed first ++ inside n start end (p ∷ x2 ∷ ys))) one
    ∙ ap (λ (q : ℕ). at_most_one (listed first ++ inside n start end (y ∷ q ∷ ys))) two
