-- What is gathered in lines and behind them in a buffer, and how many faults are counted.
use Rattle.std.proofs.Common.{◌≡◌, ◌≤◌, ◌+◌, ℕ, Bool, true, false, List, [], ◌∷◌, ◌++◌, length, take, drop, refl, sym, ◌∙◌, ap, append_assoc, arith, length-take}
use Rattle.std.proofs.lemmas.List.{append-nil}
use Rattle.std.specs.Prelude.{filter}
use Rattle.std.proofs.Math.Seq.{take-add}

-- a buffer that keeps its front is as long as that
pub long_front : (text new : List ℕ) (end : ℕ) → end ≤ length text → take end new ≡ take end text → end ≤ length new
long_front text new end le e = omega (arith, le, ap length e, length-take end new, length-take end text)

-- a text behind what is gathered, and a newline behind it
pub line_ended : (lines text new : List ℕ) (end size : ℕ) → take (end + size + 1) new ≡ take (end + size) text ++ 10 ∷ []
    → lines ++ take (end + size + 1) new ≡ (lines ++ take end text) ++ (take size (drop end text) ++ 10 ∷ [])
line_ended lines text new end size e =
    ap (λ (l : List ℕ). lines ++ l) (e ∙ ap (λ (l : List ℕ). l ++ 10 ∷ []) (take-add end size text) ∙ append_assoc (take end text) (take size (drop end text)) (10 ∷ []))
    ∙ sym (append_assoc lines (take end text) (take size (drop end text) ++ 10 ∷ []))

-- what is gathered was put aside, and a line behind it
pub told_behind : (gathered lines out text line : List ℕ) (end : ℕ) → lines ≡ gathered → end ≡ 0 → out ≡ lines ++ line
    → out ++ take end text ≡ gathered ++ (line ++ [])
told_behind gathered lines out text line end same none appended =
    ap (λ (n : ℕ). out ++ take n text) none ∙ append-nil out ∙ appended ∙ ap (λ (l : List ℕ). l ++ line) same
    ∙ ap (λ (l : List ℕ). gathered ++ l) (sym (append-nil line))

-- one event more is counted, where it is a fault
pub counted_one : {E : Type 0} (is_fault : E → Bool) (event : E) (now before : ℕ) → true ≡ is_fault event → now ≡ before
    → now + 1 ≡ before + length (filter is_fault (event ∷ []))
counted_one is_fault event now before bad same = rw (← bad, same) refl

-- and isn't where it is none
pub counted_none : {E : Type 0} (is_fault : E → Bool) (event : E) (now before : ℕ) → false ≡ is_fault event → now ≡ before
    → now ≡ before + length (filter is_fault (event ∷ []))
counted_none is_fault event now before fine same = rw (← fine, same) (omega arith)
