-- Lines of terminals on one stream, after SEGGER RTT's virtual terminals.
--
-- The lines `ready` for terminal 0, `tick` for terminal 10 and `done` for terminal 0 are the bytes of `ready`, `0a`,
-- `ff 41`, the bytes of `tick`, `0a`, `ff 30`, the bytes of `done`, `0a`.
use Rattle.std.specs.Prelude.{◌≡◌, ◌≢◌, ◌<◌, ◌≤◌, ◌+◌, ◌^◌, ◌==◌, nat_lt, if◌then◌else◌, ℕ, List, [], ◌∷◌, ◌++◌, length, map, set, slice_index_or}
use Rattle.std.specs.List.{All, AllByRecursion, range_with_len}
use Rattle.std.specs.Str.{IsUtf8}
use Rattle.rtt_terminal.specs.declared.fault.Cause.{Cause}
use Rattle.rtt_terminal.specs.declared.fault.Cause.TheVariants.{Switch, Text, Cut}

-- ---- what is spoken

-- a text for a terminal
pub record Line : Type 0 where
  pub terminal : ℕ
  pub text : List ℕ

-- the digit of a terminal: 0 to 9, then A to F
abbrev pub digit : ℕ → ℕ
digit terminal = if nat_lt terminal 10 then 48 + terminal else 55 + terminal

-- the switch in front of a line, only where the terminal changes
abbrev pub switch : ℕ → ℕ → List ℕ
switch current terminal = if current == terminal then [] else 255 ∷ digit terminal ∷ []

-- a text and a newline
abbrev pub line_bytes : List ℕ → List ℕ
line_bytes text = text ++ 10 ∷ []

-- the lines in order with their switches, where the stream stands at a terminal
abbrev pub spoken_from : ℕ → List Line → List ℕ
spoken_from current [] = []
spoken_from current (line ∷ lines) = switch current line.terminal ++ (line_bytes line.text ++ spoken_from line.terminal lines)

-- the first terminal is 0
abbrev pub spoken : List Line → List ℕ
spoken lines = spoken_from 0 lines

-- a terminal's texts in order
abbrev pub texts_of : ℕ → List Line → List (List ℕ)
texts_of terminal [] = []
texts_of terminal (line ∷ lines) = if line.terminal == terminal then line.text ∷ texts_of terminal lines else texts_of terminal lines

-- 0 to 15
abbrev pub terminals : List ℕ
terminals = range_with_len 0 16

-- for each terminal its texts
abbrev pub screens : List Line → List (List (List ℕ))
screens lines = map (λ terminal. texts_of terminal lines) terminals

abbrev pub screen_at : List (List (List ℕ)) → ℕ → List (List ℕ)
screen_at all terminal = slice_index_or all terminal []

-- with one more text for a terminal
abbrev pub with_text : List (List (List ℕ)) → ℕ → List ℕ → List (List (List ℕ))
with_text all terminal text = set all terminal (screen_at all terminal ++ text ∷ [])

-- each terminal's texts can be counted by 32 bits
abbrev pub AreFew : List (List (List ℕ)) → Type 0
AreFew all = All (λ texts. length texts < 2 ^ 32) all

-- no newline
abbrev pub LacksNewline : List ℕ → Type 0
LacksNewline text = AllByRecursion (λ b. b ≢ 10) text

-- a text for one of the 16 terminals
pub record IsLine (line : Line) : Type 0 where
  pub one : line.terminal < 16
  pub utf8 : IsUtf8 line.text
  pub whole : LacksNewline line.text

-- a text that may be spoken
pub record IsSayable (text : List ℕ) : Type 0 where
  pub short : length text ≤ 2000
  pub plain : AllByRecursion (λ b. (32 ≤ b) × (b ≢ 127)) text

-- ---- what a stream shows

-- a switch to a terminal, or a line
pub data Item : Type 0 where
  switch_item : ℕ → Item
  line_item : List ℕ → Item

abbrev pub item_bytes : Item → List ℕ
item_bytes (switch_item terminal) = 255 ∷ digit terminal ∷ []
item_bytes (line_item line) = line_bytes line

abbrev pub IsItem : Item → Type 0
IsItem (switch_item terminal) = terminal < 16
IsItem (line_item line) = IsUtf8 line × LacksNewline line

-- the bytes of some items, and then the rest
abbrev pub stream : List Item → List ℕ → List ℕ
stream [] rest = rest
stream (item ∷ items) rest = item_bytes item ++ stream items rest

-- the lines among the items, each at the terminal that was switched to last
abbrev pub lines_from : ℕ → List Item → List Line
lines_from current [] = []
lines_from current (switch_item terminal ∷ items) = lines_from terminal items
lines_from current (line_item line ∷ items) = record { terminal = current; text = line } ∷ lines_from current items

-- the bytes are items, and these are the texts of their lines
pub record Shows (bytes : List ℕ) (all : List (List (List ℕ))) : Type 0 where
  pub items : List Item
  pub are : AllByRecursion IsItem items
  pub whole : bytes ≡ stream items []
  pub shown : all ≡ screens (lines_from 0 items)

-- no switch stands at the front
abbrev pub LacksMark : List ℕ → Type 0
LacksMark bytes = (more : List ℕ) → bytes ≢ 255 ∷ more

-- a line at the front that isn't UTF-8
pub record IsNoText (bytes : List ℕ) : Type 0 where
  pub line : List ℕ
  pub after : List ℕ
  pub begins : bytes ≡ line ++ 10 ∷ after
  pub whole : LacksNewline line
  pub no_text : IsUtf8 line → ⊥
  pub no_switch : LacksMark bytes

-- a line at the front that doesn't end
pub record IsCut (bytes : List ℕ) : Type 0 where
  pub some : bytes ≢ []
  pub no_end : LacksNewline bytes
  pub no_switch : LacksMark bytes

-- an `ff` at the front that no digit follows
pub record IsNoSwitch (bytes : List ℕ) : Type 0 where
  pub after : List ℕ
  pub begins : bytes ≡ 255 ∷ after
  pub no_digit : (terminal : ℕ) (more : List ℕ) → terminal < 16 → after ≢ digit terminal ∷ more

abbrev pub StartsBadly : Cause → List ℕ → Type 0
StartsBadly Switch bytes = IsNoSwitch bytes
StartsBadly Text bytes = IsNoText bytes
StartsBadly Cut bytes = IsCut bytes

-- the first thing that isn't right: items stand before it
pub record HasFault (bytes : List ℕ) (cause : Cause) (place : ℕ) : Type 0 where
  pub items : List Item
  pub rest : List ℕ
  pub are : AllByRecursion IsItem items
  pub whole : bytes ≡ stream items rest
  pub bad : StartsBadly cause rest
  pub at : place + length rest ≡ length bytes
