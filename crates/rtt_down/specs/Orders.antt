-- Orders in bytes: each is a line of `l` and a digit from `1` to `5`.
use Rattle.std.specs.Prelude.{◌≢◌, ◌==◌, ℕ, List, [], ◌∷◌, ◌++◌, Option, Some, None, if◌then◌else◌}
use Rattle.std.specs.Option.{option_to_list}
use Rattle.defmt_hooks.specs.declared.level.Level.{Level}
use Rattle.defmt_hooks.specs.declared.level.Level.TheVariants.{Trace, Debug, Info, Warn, Error}

-- ---- the bytes are cut at each newline

-- the whole lines, of which the first begins with what was open
abbrev pub lines_from : List ℕ → List ℕ → List (List ℕ)
lines_from line [] = []
lines_from line (b ∷ bs) =
    if b == 10 then line ∷ lines_from [] bs else lines_from (line ++ b ∷ []) bs

-- the line that isn't ended
abbrev pub open_from : List ℕ → List ℕ → List ℕ
open_from line [] = line
open_from line (b ∷ bs) = if b == 10 then open_from [] bs else open_from (line ++ b ∷ []) bs

abbrev pub whole_lines : List ℕ → List (List ℕ)
whole_lines bytes = lines_from [] bytes

abbrev pub open_line : List ℕ → List ℕ
open_line bytes = open_from [] bytes

-- ---- orders

-- the level of a digit from `1` to `5`
abbrev pub level_of_digit : ℕ → Option Level
level_of_digit d =
    if d == 49 then Some Trace
    else if d == 50 then Some Debug
    else if d == 51 then Some Info
    else if d == 52 then Some Warn
    else if d == 53 then Some Error
    else None

-- the level that a line orders
abbrev pub ordered_by : List ℕ → Option Level
ordered_by [] = None
ordered_by (l ∷ []) = None
ordered_by (l ∷ d ∷ []) = if l == 108 then level_of_digit d else None
ordered_by (l ∷ d ∷ x ∷ xs) = None

abbrev pub orders_in : List (List ℕ) → List Level
orders_in [] = []
orders_in (line ∷ lines) = option_to_list (ordered_by line) ++ orders_in lines

-- the levels that bytes order, one after the other
abbrev pub orders : List ℕ → List Level
orders bytes = orders_in (whole_lines bytes)

-- the digit of a level
abbrev pub digit_of : Level → ℕ
digit_of Trace = 49
digit_of Debug = 50
digit_of Info = 51
digit_of Warn = 52
digit_of Error = 53

-- the bytes of an order
abbrev pub order_of : Level → List ℕ
order_of level = 108 ∷ digit_of level ∷ 10 ∷ []

-- those of orders, joined
abbrev pub orders_joined : List Level → List ℕ
orders_joined [] = []
orders_joined (level ∷ levels) = order_of level ++ orders_joined levels

-- ---- lines as bytes

abbrev pub ended_lines : List (List ℕ) → List ℕ
ended_lines [] = []
ended_lines (line ∷ lines) = line ++ 10 ∷ ended_lines lines

abbrev pub has_no_newline : List ℕ → Type 0
has_no_newline [] = Unit {0}
has_no_newline (b ∷ bs) = (b ≢ 10) × has_no_newline bs

abbrev pub have_no_newline : List (List ℕ) → Type 0
have_no_newline [] = Unit {0}
have_no_newline (line ∷ lines) = has_no_newline line × have_no_newline lines

-- ---- the open line as it is kept: its bytes up to two, or none where it has more

abbrev pub kept_of : List ℕ → Option (List ℕ)
kept_of [] = Some []
kept_of (a ∷ []) = Some (a ∷ [])
kept_of (a ∷ b ∷ []) = Some (a ∷ b ∷ [])
kept_of (a ∷ b ∷ c ∷ more) = None

-- with one byte more
abbrev pub lengthened : Option (List ℕ) → ℕ → Option (List ℕ)
lengthened None b = None
lengthened (Some line) b = kept_of (line ++ b ∷ [])

abbrev pub ordered_by_kept : Option (List ℕ) → Option Level
ordered_by_kept None = None
ordered_by_kept (Some line) = ordered_by line

-- what is kept behind a byte, and the level that it orders
abbrev pub open_after : Option (List ℕ) → ℕ → Option (List ℕ)
open_after kept b = if b == 10 then Some [] else lengthened kept b

abbrev pub ordered_at : Option (List ℕ) → ℕ → Option Level
ordered_at kept b = if b == 10 then ordered_by_kept kept else None
