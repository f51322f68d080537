-- What the code finds at the front of some bytes.
use Rattle.std.specs.Prelude.{◌≡◌, ◌-◌, ◌==◌, nat_le, ◌&&◌, if◌then◌else◌, ℕ, List, [], ◌∷◌, ◌++◌, Option, Some, None, Result, Ok, Err}
use Rattle.std.specs.Borrow.{Bor}
use Rattle.rtt_terminal.specs.declared.fault.Cause.{Cause}
use Rattle.rtt_terminal.specs.declared.item.Item.{Item as Found}
use Rattle.rtt_terminal.specs.declared.item.Item.TheVariants.{Switch, Line}
use Rattle.rtt_terminal.specs.declared.fault.TermFault.{TermFault}
use Rattle.rtt_terminal.specs.Answers.{Reads}
use Rattle.rtt_terminal.specs.Stream.{Item, switch_item, line_item, item_bytes, IsItem, StartsBadly}

-- the terminal of a digit
abbrev pub terminal_of : ℕ → Option ℕ
terminal_of byte = if nat_le 48 byte && nat_le byte 57 then Some (byte - 48) else if nat_le 65 byte && nat_le byte 70 then Some (byte - 55) else None

-- the terminal that a text of one digit names
abbrev pub terminal_named : List ℕ → Option ℕ
terminal_named (byte ∷ []) = terminal_of byte
terminal_named text = None

abbrev pub up_to_newline : List ℕ → List ℕ
up_to_newline [] = []
up_to_newline (b ∷ bytes) = if b == 10 then [] else b ∷ up_to_newline bytes

abbrev pub from_newline : List ℕ → List ℕ
from_newline [] = []
from_newline (b ∷ bytes) = if b == 10 then b ∷ bytes else from_newline bytes

abbrev pub item_of : Found → Item
item_of (Switch terminal) = switch_item terminal
item_of (Line line) = line_item line.now

-- an item stands at the front, or what is there isn't right
abbrev pub Takes : List ℕ → Result (Found × Bor (List ℕ)) Cause → Type 0
Takes bytes (Ok found) = (bytes ≡ item_bytes (item_of found.0) ++ found.1.now) × IsItem (item_of found.0)
Takes bytes (Err cause) = StartsBadly cause bytes

-- the screens show what the bytes show, or what isn't right in these is told
abbrev pub Fills : List ℕ → List (List (List ℕ)) → Result (Unit {0}) TermFault → Type 0
Fills bytes shown (Ok done) = Reads bytes (Ok shown)
Fills bytes shown (Err fault) = Reads bytes (Err fault)
