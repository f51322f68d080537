-- Which lines of a tape are printed where rules say which are shown: the others are left out, and nothing else changes.
use Rattle.std.specs.Prelude.{◌+◌, ℕ, Bool, true, List, [], ◌∷◌, ◌++◌, Option, Some, None, flat_map, option_map, if◌then◌else◌}
use Rattle.defmt_decode.specs.Shown.{shows_line}
use Rattle.defmt_hooks.specs.declared.rules.Rules.{Rules}
use Rattle.defmt_intern.specs.Table.{Map}
use Rattle.defmt_intern.specs.declared.table.Profile.{Profile}
use Rattle.defmt_intern.specs.declared.table.Profile.TheVariants as profiles
use Rattle.defmt_logger.specs.Tape.{mark_line}
use Rattle.defmt_logger.specs.declared.mark.Mark.{Mark}
use Rattle.defmt_print.specs.Printed.{mark_statement}
use Rattle.defmt_recording.specs.Output.{ended, gap_line}
use Rattle.defmt_recording.specs.Styled.{prints_index}
use Rattle.defmt_script.specs.Script.{Script}
use Rattle.defmt_values.specs.declared.value.Statement.{Statement}
use Rattle.rtt_modes.specs.declared.fate.Fate.{Fate}
use Rattle.rtt_modes.specs.declared.fate.Fate.TheVariants.{Whole, Dropped, Cut}

abbrev pub shows_statement : Rules → Map → Option Statement → Bool
shows_statement rules table (Some stm) = shows_line rules table stm.index
shows_statement rules table None = true

abbrev pub shows_by : Option Rules → Map → Option Statement → Bool
shows_by None table statement = true
shows_by (Some rules) table statement = shows_statement rules table statement

-- the statement of a mark is shown
abbrev pub shows_mark : Option Rules → Script → Mark → Bool
shows_mark only s m = shows_by only s.table (mark_statement s m)

-- ---- the eager lines of the shown statements whose frames were sent whole, in the tape's order

-- a line with this index is shown
abbrev pub shows_index : Option Rules → Map → ℕ → Bool
shows_index only table index = prints_index only table index

-- a line, where it is shown
abbrev pub kept_line : Bool → List ℕ → List ℕ
kept_line shown line = if shown then ended line else []

abbrev pub shown_by : Fate → Option Statement → Bool → List ℕ → List ℕ
shown_by Whole (Some stm) shown line = kept_line shown line
shown_by fate statement shown line = []

abbrev pub shown_mark_line : Option Rules → Script → Mark → List ℕ
shown_mark_line only s m = shown_by m.fate (mark_statement s m) (shows_mark only s m) (mark_line s m)

abbrev pub shown_mark_lines : Option Rules → Script → List Mark → List ℕ
shown_mark_lines only s tape = flat_map (shown_mark_line only s) tape

-- ---- the same with the gaps between them

-- how many frames were dropped since the last that was sent whole, behind a mark; nothing where none was sent whole yet
abbrev pub dropped_behind : Fate → Option ℕ → Option ℕ
dropped_behind Whole dropped = Some 0
dropped_behind (Dropped need room) dropped = option_map (λ d. d + 1) dropped
dropped_behind (Cut need room) dropped = option_map (λ d. d + 1) dropped

abbrev pub dropped_line : Option ℕ → List ℕ
dropped_line None = []
dropped_line (Some d) = gap_line d

-- in place of a frame that was sent whole, a report of those that were dropped in front of it, and its line, where it is shown
abbrev pub tape_line : Fate → Option ℕ → Bool → List ℕ → List ℕ
tape_line Whole dropped shown line = dropped_line dropped ++ kept_line shown line
tape_line (Dropped need room) dropped shown line = []
tape_line (Cut need room) dropped shown line = []

-- behind so many dropped frames
abbrev pub tape_lines : Option Rules → Script → Option ℕ → List Mark → List ℕ
tape_lines only s dropped [] = []
tape_lines only s dropped (m ∷ ms) =
    tape_line m.fate dropped (shows_mark only s m) (mark_line s m) ++ tape_lines only s (dropped_behind m.fate dropped) ms

-- what a tape prints: in profile Two with the gaps
abbrev pub tape_lines_by : Profile → Option Rules → Script → List Mark → List ℕ
tape_lines_by profiles.One only s tape = shown_mark_lines only s tape
tape_lines_by profiles.Two only s tape = tape_lines only s None tape
