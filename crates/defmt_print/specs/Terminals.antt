-- What is printed of the texts of terminals.
use Rattle.std.specs.Prelude.{◌==◌, ℕ, zero, suc, List, [], ◌∷◌, ◌++◌, codes, flat_map, length, if◌then◌else◌}
use Rattle.defmt_recording.specs.Output.{ended}
use Rattle.rtt_terminal.specs.Stream.{digit, screen_at}

-- a line that names the terminal, and its texts, each with a newline; nothing of a terminal without a text
abbrev pub terminal_lines : ℕ → List (List ℕ) → List ℕ
terminal_lines terminal texts =
    if length texts == 0 then [] else codes "== terminal " ++ ended (digit terminal ∷ []) ++ flat_map ended texts

-- those of the terminals below a number, in order
abbrev pub terminals_below : ℕ → List (List (List ℕ)) → List ℕ
terminals_below zero screens = []
terminals_below (suc n) screens = terminals_below n screens ++ terminal_lines n (screen_at screens n)

-- those of the terminals 0 to F
abbrev pub screen_lines : List (List (List ℕ)) → List ℕ
screen_lines screens = terminals_below 16 screens
