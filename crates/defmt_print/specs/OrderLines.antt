-- What is printed of the orders of a run.
use Rattle.std.specs.Prelude.{ℕ, ◌+◌, List, [], ◌∷◌, ◌++◌, codes, nat_lt, position, Option, Some, None}
use Rattle.std.specs.Fmt.{decimal}
use Rattle.defmt_hooks.specs.Spelling.{word_of}
use Rattle.defmt_hooks.specs.declared.level.Floor.TheVariants.{At}
use Rattle.defmt_hooks.specs.declared.level.Level.{Level}
use Rattle.defmt_recording.specs.Output.{ended}
use Rattle.rtt_down.specs.declared.turn.Turn.{Turn}

-- from which turn on an order of this level was heard, where it was
abbrev pub order_text : Level → Option ℕ → List ℕ
order_text level (Some turn) = codes "-- level " ++ (word_of (At level) ++ (codes " from turn " ++ decimal turn))
order_text level None = codes "-- level " ++ (word_of (At level) ++ codes " unheard")

-- the first turn that had heard more orders than this many
abbrev pub heard_at : List Turn → ℕ → Option ℕ
heard_at turns number = position (λ (t : Turn). nat_lt number t.seen) turns

-- a line for each of some orders, of which the first has this number
abbrev pub order_lines_from : ℕ → List (ℕ × Level) → List Turn → List ℕ
order_lines_from number [] turns = []
order_lines_from number (order ∷ orders) turns =
    ended (order_text order.1 (heard_at turns number)) ++ order_lines_from (number + 1) orders turns

-- for each order, numbered from 0
abbrev pub order_lines : List (ℕ × Level) → List Turn → List ℕ
order_lines orders turns = order_lines_from 0 orders turns
