-- Texts in bytes.
use Rattle.std.proofs.Common.{◌≡◌, ◌≤◌, ◌+◌, ◌-◌, inl, inr, ℕ, zero, suc, true, false, List, [], ◌∷◌, ◌++◌, length, take, drop, get_or, Option, Some, None, MatchOption, Bor, bytes_eq, refl, sym, ap, ◌∙◌, arith, length-append}
use Rattle.std.proofs.lemmas.List.{take_rest, take_at, take-append-drop, get_or_at, same_from_push}
use Rattle.std.proofs.lemmas.Slice.Eq.{bytes_eq-Decides}
use Rattle.elf_section.specs.Bytes.{IsUnquoted, IsBehind}

-- what strip_prefix gives
pub behind_by_cases : (text front : List ℕ) (r : Option (Bor (List ℕ))) → MatchOption r (bytes_eq (take (length front) text) front ≡ false) (λ x. (bytes_eq (take (length front) text) front ≡ true) × (x.now ≡ drop (length front) text) × (length x.now + length front ≡ length text)) → IsBehind text front r
behind_by_cases text front None h = λ rest e.
    let same : take (length front) text ≡ front = ap (take (length front)) e ∙ take_at front rest (length front) refl in
    let k : bytes_eq (take (length front) text) front ≡ true = (bytes_eq-Decides (take (length front) text) front).1 same in
    absurd cc
behind_by_cases text front (Some x) h =
    let same : take (length front) text ≡ front = (bytes_eq-Decides (take (length front) text) front).0 h.0 in
    sym (ap (λ (t : List ℕ). front ++ t) h.1 ∙ ap (λ (t : List ℕ). t ++ drop (length front) text) (sym same) ∙ take-append-drop (length front) text)

-- a last element
front_and_last : (xs : List ℕ) (n b : ℕ) → length xs ≡ suc n → get_or xs n 0 ≡ b → xs ≡ take n xs ++ b ∷ []
front_and_last [] n b h e = absurd (omega arith)
front_and_last (x ∷ []) zero b h e = ap (λ (y : ℕ). y ∷ []) e
front_and_last (x ∷ []) (suc n) b h e = absurd (omega arith)
front_and_last (x ∷ y ∷ xs) zero b h e = absurd (omega arith)
front_and_last (x ∷ y ∷ xs) (suc n) b h e = ap (λ (t : List ℕ). x ∷ t) (front_and_last (y ∷ xs) n b (omega arith) e)

quoted_by : (name : List ℕ) (n : ℕ) → length name ≡ suc (suc n) → get_or name 0 0 ≡ 34 → get_or name (suc n) 0 ≡ 34 → name ≡ 34 ∷ (take n (drop 1 name) ++ 34 ∷ [])
quoted_by [] n h a b = absurd (omega arith)
quoted_by (x ∷ xs) n h a b = ap (λ (c : ℕ). c ∷ xs) a ∙ ap (λ (t : List ℕ). 34 ∷ t) (front_and_last xs n 34 (omega arith) b)

pub quoted_parts : (name : List ℕ) → 2 ≤ length name → get_or name 0 0 ≡ 34 → get_or name (length name - 1) 0 ≡ 34 → name ≡ 34 ∷ (take (length name - 2) (drop 1 name) ++ 34 ∷ [])
quoted_parts name h a b = quoted_by name (length name - 2) (omega arith) a (ap (λ (i : ℕ). get_or name i 0) (let k : suc (length name - 2) ≡ length name - 1 = omega arith in k) ∙ b)

pub quoted_ends : (name text : List ℕ) → name ≡ 34 ∷ (text ++ 34 ∷ []) → (2 ≤ length name) × (get_or name 0 0 ≡ 34) × (get_or name (length name - 1) 0 ≡ 34)
quoted_ends name text e =
    let l : length name ≡ suc (length text + 1) = ap length e ∙ ap suc (length-append text (34 ∷ [])) in (
      omega arith,
      ap (λ (t : List ℕ). get_or t 0 0) e,
      ap (λ (n : ℕ). get_or name n 0) (let k : length name - 1 ≡ suc (length text) = omega arith in k) ∙ ap (λ (t : List ℕ). get_or t (suc (length text)) 0) e ∙ get_or_at text 34 [] 0 (length text) refl,
    )

-- a name is unquoted in one way
pub one_unquoted : (name a b : List ℕ) → IsUnquoted name a → IsUnquoted name b → a ≡ b
one_unquoted name a b (inl x) (inl y) = (same_from_push a b 34 34 (let k : (a ++ 34 ∷ []) ≡ (b ++ 34 ∷ []) = ap (drop 1) (sym x ∙ y) in k)).0
one_unquoted name a b (inl x) (inr y) = absurd (y.1 a x)
one_unquoted name a b (inr x) (inl y) = absurd (x.1 b y)
one_unquoted name a b (inr x) (inr y) = x.0 ∙ sym y.0

pub part_is : (bytes : List ℕ) (at size : ℕ) → at + size ≤ length bytes → take (size - 0) (take (length bytes - at) (drop at bytes)) ≡ take size (drop at bytes)
part_is bytes at size h = ap (take (size - 0)) (take_rest bytes at) ∙ ap (λ (n : ℕ). take n (drop at bytes)) (let k : size - 0 ≡ size = omega arith in k)
