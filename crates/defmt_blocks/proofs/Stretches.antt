-- A front of a part and the stretch behind it.
use Rattle.std.proofs.Common.{◌≡◌, ◌≤◌, ◌+◌, ◌-◌, ℕ, List, ◌++◌, length, take, drop, sym, ◌∙◌, ap, arith, length-drop, length-take}
use Rattle.std.proofs.Math.Seq.{take-append-add}
use Rattle.std.proofs.lemmas.List.{take-append-drop}

split_at : (xs : List ℕ) (m n : ℕ) → m ≤ length xs → take (m + n) xs ≡ take m xs ++ take n (drop m xs)
split_at xs m n within =
    let size : length (take m xs) ≡ m = omega (arith, length-take m xs, within) in
    ap (take (m + n)) (sym (take-append-drop m xs)) ∙ ap (λ (k : ℕ). take (k + n) (take m xs ++ drop m xs)) (sym size)
    ∙ take-append-add (take m xs) (drop m xs) n

pub front_and_stretch : (part : List ℕ) (at to : ℕ) → at ≤ to → at ≤ length part → take to part ≡ take at part ++ take (to - at) (drop at part)
front_and_stretch part at to ordered within =
    ap (λ (k : ℕ). take k part) (let e : to ≡ at + (to - at) = omega (arith, ordered) in e) ∙ split_at part at (to - at) within

pub size_of_stretch : (part : List ℕ) (at to : ℕ) → at ≤ to → to ≤ length part → length (take (to - at) (drop at part)) ≡ to - at
size_of_stretch part at to ordered within = omega (arith, length-take (to - at) (drop at part), length-drop at part, ordered, within)
