-- The places that a text tells: where in the sources each statement stands.
use Rattle.std.specs.Prelude.{◌==◌, ◌&&◌, ◌+◌, ℕ, Bool, true, not, List, [], ◌∷◌, length, slice_index, nat_lt, Option, Some, None, is_some, option_map, Result, Ok, Err, if◌then◌else◌}
use Rattle.std.specs.Borrow.{Bor}
use Rattle.std.specs.FinMap as map
use Rattle.std.specs.Ordering.{nat_cmp}
use Rattle.std.specs.Str.{is_utf8}
use Rattle.std.specs.Str.Lines.{lines}
use Rattle.defmt_grammar.specs.Cut.{cut, number_of}
use Rattle.defmt_places.specs.declared.fault.Cause.{Cause}
use Rattle.defmt_places.specs.declared.fault.Cause.TheVariants.{Line, Index, Double}

-- a finite map from indexes to places
abbrev pub Map : Type 0
Map = map.FinMap nat_cmp (List ℕ)

abbrev pub cause_number : Cause → ℕ
cause_number Line = 1
cause_number Index = 2
cause_number Double = 3

-- an index: decimal digits without a leading zero
abbrev pub index_in : List ℕ → Option ℕ
index_in word = if nat_lt 1 (length word) && slice_index word 0 == 48 then None else number_of word

-- an index, and a place, which isn't empty
abbrev pub pair_by : Option (List ℕ × List ℕ) → Option (ℕ × List ℕ)
pair_by None = None
pair_by (Some p) = if length p.1 == 0 then None else option_map (λ index. (index, p.1)) (index_in p.0)

-- parted by the first space
unfoldable pub pair_in : List ℕ → Option (ℕ × List ℕ)
pair_in line = pair_by (cut 32 line)

-- an index of 16 bits gets its place, if it has none yet
abbrev pub with_pair : Map → ℕ × List ℕ → Result Map Cause
with_pair places pair =
    if nat_lt 65535 pair.0 then Err Index
    else if is_some (map.get places pair.0) then Err Double
    else Ok (map.insert places pair.0 pair.1)

abbrev pub with_place : Map → Option (ℕ × List ℕ) → Result Map Cause
with_place places None = Err Line
with_place places (Some pair) = with_pair places pair

-- an empty line, or one that begins with `#`
abbrev pub is_passed_over : List ℕ → Bool
is_passed_over [] = true
is_passed_over (c ∷ cs) = c == 35

unfoldable pub with_line : Map → List ℕ → Result Map Cause
with_line places line =
    if not (is_utf8 line) then Err Line
    else if is_passed_over line then Ok places
    else with_place places (pair_in line)

-- the line that is refused, counted from 1, and why
pub record Refusal : Type 0 where
  pub line : ℕ
  pub cause : Cause

-- what is told behind a line of this number, where that isn't refused
abbrev pub behind : ℕ → Result Map Cause → (Map → Result Map Refusal) → Result Map Refusal
behind number (Ok places) more = more places
behind number (Err cause) more = Err (record { line = number; cause = cause })

-- with what these lines tell, of which the first has this number; the first that is refused counts
abbrev pub with_lines : ℕ → Map → List (List ℕ) → Result Map Refusal
with_lines number places [] = Ok places
with_lines number places (line ∷ lines) = behind number (with_line places line) (λ told. with_lines (number + 1) told lines)

abbrev pub places_in : List ℕ → Result Map Refusal
places_in text = with_lines 1 map.empty (lines text)

-- an index and a place, as plain data
abbrev pub pair_view : ℕ × Bor (List ℕ) → ℕ × List ℕ
pair_view p = (p.0, p.1.now)
