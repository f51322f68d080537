-- The words of a slice without the first, and without the last of them.
use Rattle.std.proofs.Common.{◌≡◌, ◌<◌, ◌≤◌, ◌+◌, ◌-◌, ℕ, suc, List, [], ◌∷◌, ◌++◌, length, map, get_or, take, drop, sym, ap, subst, ◌∙◌, arith, length-append}
use Rattle.std.proofs.lemmas.List.{take_more, take_at, append-nil, map-append, length-map}
use Rattle.ring_bench.proofs.Plans.{same_ends}

all_of : {X : Type 0} (xs : List X) (k : ℕ) → k ≡ length xs → take k xs ≡ xs
all_of xs k size = ap (take k) (sym (append-nil xs)) ∙ take_at xs [] k (sym size)

last_of : {X : Type 0} (ys : List X) (x : X) (k : ℕ) → k + 1 ≡ length ys → x ≡ get_or ys k x → ys ≡ take k ys ++ x ∷ []
last_of ys x k size is =
    sym (all_of ys (k + 1) size) ∙ take_more ys k x (omega (arith, size)) ∙ ap (λ v. take k ys ++ v ∷ []) (sym is)

mapped_last : {X : Type 0} (f : X → List ℕ) (y : X) (ys : List X) (x : X) → 1 ≤ length ys → x ≡ get_or (y ∷ ys) (length (y ∷ ys) - 1) x → map f ys ≡ map f (take (length (y ∷ ys) - 1 - 1) ys) ++ f x ∷ []
mapped_last f y ys x some is =
    let k = length (y ∷ ys) - 1 - 1 in
    let back : x ≡ get_or ys k x = subst (λ (i : ℕ). x ≡ get_or (y ∷ ys) i x) (let e : length (y ∷ ys) - 1 ≡ suc k = omega arith in e) is in
    ap (map f) (last_of ys x k (omega arith) back) ∙ map-append f (take k ys) (x ∷ [])

pub ends_of : {X : Type 0} (f : X → List ℕ) (xs : List X) (x : X) (w : List ℕ) → 2 ≤ length xs → x ≡ get_or xs (length xs - 1) x → f x ≡ w → (name : List ℕ) × (map f xs ≡ name ∷ (map f (take (length xs - 1 - 1) (drop 1 xs)) ++ w ∷ []))
ends_of f [] x w some is at = absurd (omega arith)
ends_of f (y ∷ ys) x w some is at =
    (f y, ap (λ (l : List (List ℕ)). f y ∷ l) (mapped_last f y ys x (omega arith) is ∙ ap (λ (v : List ℕ). map f (take (length (y ∷ ys) - 1 - 1) ys) ++ v ∷ []) at))

behind : {X : Type 0} (y : X) (ys : List X) → take (length (y ∷ ys) - 1) ys ≡ ys
behind y ys = all_of ys (length (y ∷ ys) - 1) (omega arith)

pub starts_of : {X : Type 0} (f : X → List ℕ) (xs : List X) → 1 ≤ length xs → (name : List ℕ) × (map f xs ≡ name ∷ map f (take (length xs - 1) (drop 1 xs)))
starts_of f [] some = absurd (omega arith)
starts_of f (y ∷ ys) some = (f y, ap (λ l. f y ∷ map f l) (sym (behind y ys)))

pub not_ended : {X : Type 0} (f : X → List ℕ) (xs : List X) (x : X) (w : List ℕ) → 2 ≤ length xs → x ≡ get_or xs (length xs - 1) x → (f x ≡ w → ⊥) → (front : List (List ℕ)) → map f (take (length xs - 1) (drop 1 xs)) ≡ front ++ w ∷ [] → ⊥
not_ended f [] x w some is other front same = absurd (omega arith)
not_ended f (y ∷ ys) x w some is other front same =
    other (same_ends (map f (take (length (y ∷ ys) - 1 - 1) ys)) front (f x) w (sym (mapped_last f y ys x (omega arith) is) ∙ ap (map f) (sym (behind y ys)) ∙ same)).1

pub too_short : {X : Type 0} (f : X → List ℕ) (xs : List X) (w : List ℕ) → length xs < 2 → 1 ≤ length xs → (front : List (List ℕ)) → map f (take (length xs - 1) (drop 1 xs)) ≡ front ++ w ∷ [] → ⊥
too_short f [] w few some front same = absurd (omega arith)
too_short f (y ∷ ys) w few some front same =
    absurd (omega (arith, ap length (ap (map f) (sym (behind y ys)) ∙ same), length-map ys f, length-append front (w ∷ [])))
