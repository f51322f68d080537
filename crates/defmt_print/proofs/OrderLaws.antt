-- The lines of one order more.
use Rattle.std.proofs.Common.{◌≡◌, ℕ, zero, suc, ◌+◌, ◌≤◌, List, [], ◌∷◌, ◌++◌, length, sym, ap, ◌∙◌, append_assoc, arith, take}
use Rattle.std.specs.Prelude.{Some, slice_get}
use Rattle.std.proofs.lemmas.List.{append-nil, take_all}
use Rattle.std.proofs.lemmas.Option.{same_Some}
use Rattle.defmt_hooks.specs.declared.level.Level.{Level}
use Rattle.defmt_print.specs.OrderLines.{heard_at, order_lines, order_lines_from, order_text}
use Rattle.defmt_recording.specs.Output.{ended}
use Rattle.rtt_down.specs.declared.turn.Turn.{Turn}

abbrev Plan : Type 0
Plan = List (ℕ × Level)

abbrev line : ℕ → Level → List Turn → List ℕ
line number level turns = ended (order_text level (heard_at turns number))

-- the line of the order behind the first n
lines_more : (from : ℕ) (orders : Plan) (turns : List Turn) (n : ℕ) (order : ℕ × Level) → slice_get orders n ≡ Some order
    → order_lines_from from (take (suc n) orders) turns ≡ order_lines_from from (take n orders) turns ++ line (from + n) order.1 turns
lines_more from [] turns n order at = absurd (cc at)
lines_more from (first ∷ orders) turns zero order at =
    let same : first ≡ order = same_Some first order at in
    let here : from + 0 ≡ from = omega arith in
    append-nil (line from first.1 turns) ∙ ap (λ (o : ℕ × Level). line from o.1 turns) same ∙ sym (ap (λ (k : ℕ). line k order.1 turns) here)
lines_more from (first ∷ orders) turns (suc n) order at =
    let there : (from + 1) + n ≡ from + suc n = omega arith in
    ap (λ (l : List ℕ). line from first.1 turns ++ l) (lines_more (from + 1) orders turns n order at)
    ∙ sym (append_assoc (line from first.1 turns) (order_lines_from (from + 1) (take n orders) turns) (line ((from + 1) + n) order.1 turns))
    ∙ ap (λ (k : ℕ). (line from first.1 turns ++ order_lines_from (from + 1) (take n orders) turns) ++ line k order.1 turns) there

-- what is written with one line more
pub added : (orders : Plan) (turns : List Turn) (n : ℕ) (order : ℕ × Level) (start before after : List ℕ) → slice_get orders n ≡ Some order
    → before ≡ start ++ order_lines (take n orders) turns → after ≡ before ++ line n order.1 turns
    → after ≡ start ++ order_lines (take (n + 1) orders) turns
added orders turns n order start before after at e f =
    let next : suc n ≡ n + 1 = omega arith in
    let here : 0 + n ≡ n = omega arith in
    f ∙ ap (λ (l : List ℕ). l ++ line n order.1 turns) e
    ∙ append_assoc start (order_lines (take n orders) turns) (line n order.1 turns)
    ∙ ap (λ (k : ℕ). start ++ (order_lines (take n orders) turns ++ line k order.1 turns)) (sym here)
    ∙ ap (λ (l : List ℕ). start ++ l) (sym (lines_more 0 orders turns n order at))
    ∙ ap (λ (k : ℕ). start ++ order_lines (take k orders) turns) next

-- and with all
pub all_added : (orders : Plan) (turns : List Turn) (n : ℕ) (start after : List ℕ) → length orders ≤ n → after ≡ start ++ order_lines (take n orders) turns → after ≡ start ++ order_lines orders turns
all_added orders turns n start after past e = e ∙ ap (λ (l : Plan). start ++ order_lines l turns) (take_all n orders past)
