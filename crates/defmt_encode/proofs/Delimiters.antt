-- A code between two zeros in a buffer.
use Rattle.std.proofs.Common.{◌≡◌, ◌≤◌, ◌<◌, ℕ, suc, ◌+◌, ◌-◌, List, [], ◌∷◌, ◌++◌, length, take, drop, set, sym, ap, subst, ◌∙◌, arith, length-append}
use Rattle.std.proofs.lemmas.List.{append-nil, take_more_set, take-append-le, drop-set-lt, drop-drop, drop_all, take_all}
use borrow.Rule.Slice.PartMut.{put_mid}

pub frame_front : (out e code : List ℕ) (count : ℕ) → count + 2 ≤ length out → length e ≡ length out - 1 → take count e ≡ code
    → take (count + 2) (set (put_mid 1 (length (set out 0 0) - 1) (set out 0 0) e) (count + 1) 0) ≡ 0 ∷ (code ++ 0 ∷ [])
frame_front [] e code count room size c = absurd (omega arith)
frame_front (x ∷ rest) e code count room size c =
    let more : List ℕ = drop (length (0 ∷ rest) - 1) rest in
    let one : count + 1 ≡ suc count = omega arith in
    let two : count + 2 ≡ suc (suc count) = omega arith in
    let lt : count < length (e ++ more) = omega (arith, length-append e more) in
    let a : take (count + 1) (set (e ++ more) count 0) ≡ take count (e ++ more) ++ 0 ∷ [] = take_more_set (e ++ more) count 0 lt in
    let b : take count (e ++ more) ≡ take count e = take-append-le count e more (omega arith) in
    let f : take (suc count) (set (e ++ more) count 0) ≡ code ++ 0 ∷ [] = subst (λ (j : ℕ). take j (set (e ++ more) count 0) ≡ take count (e ++ more) ++ 0 ∷ []) one a ∙ ap (λ (t : List ℕ). t ++ 0 ∷ []) (b ∙ c) in
    rw (two, one) (ap (λ (t : List ℕ). 0 ∷ t) f)

pub frame_behind : (out e : List ℕ) (count : ℕ) → count + 2 ≤ length out → length e ≡ length out - 1 → drop count e ≡ drop count (take (length (set out 0 0) - 1) (drop 1 (set out 0 0)))
    → drop (count + 2) (set (put_mid 1 (length (set out 0 0) - 1) (set out 0 0) e) (count + 1) 0) ≡ drop (count + 2) out
frame_behind [] e count room size b = absurd (omega arith)
frame_behind (x ∷ rest) e count room size b =
    let k : ℕ = length (0 ∷ rest) - 1 in
    let more : List ℕ = drop k rest in
    let one : count + 1 ≡ suc count = omega arith in
    let two : count + 2 ≡ suc (suc count) = omega arith in
    let none : more ≡ [] = drop_all k rest (omega arith) in
    let whole : take k rest ≡ rest = take_all k rest (omega arith) in
    let all : e ++ more ≡ e = ap (λ (t : List ℕ). e ++ t) none ∙ append-nil e in
    let a : drop (suc count) (set (e ++ more) count 0) ≡ drop (suc count) (e ++ more) = drop-set-lt (suc count) (e ++ more) count 0 (omega arith) in
    let d : drop 1 (drop count e) ≡ drop (count + 1) e = drop-drop 1 count e in
    let r : drop 1 (drop count rest) ≡ drop (count + 1) rest = drop-drop 1 count rest in
    let same : drop (suc count) e ≡ drop (suc count) rest = subst (λ (j : ℕ). drop j e ≡ drop j rest) one (sym d ∙ ap (λ (t : List ℕ). drop 1 t) (b ∙ ap (λ (t : List ℕ). drop count t) whole) ∙ r) in
    rw (two, one) (a ∙ ap (λ (t : List ℕ). drop (suc count) t) all ∙ same)
