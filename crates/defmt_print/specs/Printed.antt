-- What is printed of a script and of its run.
use Rattle.std.specs.Prelude.{◌+◌, ◌<◌, ◌==◌, ℕ, Bool, false, List, [], ◌∷◌, ◌++◌, codes, length, Option, Some, None, flat_map, count_by, sum_by, slice_get}
use Rattle.std.specs.Fmt.{decimal}
use Rattle.std.specs.List.{AllByRecursion}
use Rattle.defmt_eager.specs.Line.{eager_line, IsWide}
use Rattle.defmt_intern.specs.Stamp.{stamp_of}
use Rattle.defmt_encode.specs.Carry.{message_of, stamp_args}
use Rattle.defmt_encode.specs.Placed.{place_in}
use Rattle.defmt_frames.specs.Frames.{count, stamp_number}
use Rattle.defmt_intern.specs.Table.{Map}
use Rattle.defmt_intern.specs.declared.entry.Entry.{Entry}
use Rattle.defmt_logger.specs.declared.mark.Mark.{Mark}
use Rattle.defmt_recording.specs.Output.{ended}
use Rattle.defmt_hooks.specs.Kept.{rank}
use Rattle.defmt_hooks.specs.Levels.{level_of}
use Rattle.defmt_hooks.specs.declared.level.Level.{Level}
use Rattle.defmt_hooks.specs.declared.level.Level.TheVariants as levels
use Rattle.defmt_script.specs.Lawful.{stamp_in}
use Rattle.defmt_script.specs.Script.{Script, statements_by}
use Rattle.defmt_values.specs.Entries.{look}
use Rattle.defmt_values.specs.Fits.{Fits, FitsStamp, IsLogged}
use Rattle.defmt_values.specs.declared.value.Statement.{Statement}

-- ---- the statements, numbered from 0 by writer and then by place, with the stamps of their numbers

-- the line of a statement with this stamp, where the script has stamps
abbrev pub statement_line : Script → ℕ → Statement → List ℕ
statement_line s stamp stm = ended (eager_line s.table (stamp_args (stamp_in s.settings.stamp stamp)) stm.index stm.args)

abbrev pub numbered_line : Script → ℕ → Statement → List ℕ
numbered_line s number stm = statement_line s (stamp_number s number) stm

-- each statement by its number, of which the first has this one
abbrev pub numbered : (ℕ → Statement → List ℕ) → ℕ → List Statement → List ℕ
numbered line number [] = []
numbered line number (stm ∷ more) = line number stm ++ numbered line (number + 1) more

-- the statements of these writers, one writer after another
abbrev pub all_statements : List (List Statement) → List Statement
all_statements writers = flat_map (λ list. list) writers

abbrev pub statement_lines : Script → List ℕ
statement_lines s = numbered (numbered_line s) 0 (all_statements s.writers)

-- ---- counts over the tape

-- the statement of a mark
abbrev pub mark_statement : Script → Mark → Option Statement
mark_statement s m = slice_get (statements_by s m.writer) m.place

abbrev pub entry_with : Map → Option Statement → Option Entry
entry_with table None = None
entry_with table (Some stm) = look table stm.index

-- there is a level, and it is this one
abbrev pub is_level : Level → Option Level → Bool
is_level level None = false
is_level level (Some other) = rank level == rank other

abbrev pub entry_has_level : Level → Option Entry → Bool
entry_has_level level None = false
entry_has_level level (Some entry) = is_level level (level_of entry.tag)

-- the statement of a mark is of this level
unfoldable pub is_of_level : Script → Level → Mark → Bool
is_of_level s level m = entry_has_level level (entry_with s.table (mark_statement s m))

abbrev pub carried_message : Map → Option ℕ → Option ℕ → Option Statement → List ℕ
carried_message table place stamp None = []
carried_message table place stamp (Some stm) = message_of table place (stamp_args stamp) stm.index stm.args

-- how many bytes the message of a mark has, which are as many at each place
unfoldable pub message_size : Script → Mark → ℕ
message_size s m = length (carried_message s.table (place_in s.settings.profile 0) (stamp_in s.settings.stamp m.stamp) (mark_statement s m))

-- words and a number
abbrev pub count_line : List ℕ → ℕ → List ℕ
count_line words number = ended (words ++ decimal number)

abbrev pub level_line : Script → List Mark → List ℕ → Level → List ℕ
level_line s tape words level = count_line words (count_by (is_of_level s level) tape)

abbrev pub writer_count_line : List Mark → ℕ → List ℕ
writer_count_line tape writer = codes "writer " ++ decimal writer ++ count_line (codes " ") (count_by (λ m. m.writer == writer) tape)

-- how many lines there are, of each level and of each of the writers 0 to 3, and how many bytes their messages have
abbrev pub summary : Script → List Mark → List ℕ
summary s tape =
    count_line (codes "lines ") (length tape)
    ++ level_line s tape (codes "trace ") levels.Trace ++ level_line s tape (codes "debug ") levels.Debug
    ++ level_line s tape (codes "info ") levels.Info ++ level_line s tape (codes "warn ") levels.Warn
    ++ level_line s tape (codes "error ") levels.Error
    ++ writer_count_line tape 0 ++ writer_count_line tape 1 ++ writer_count_line tape 2 ++ writer_count_line tape 3
    ++ count_line (codes "bytes ") (sum_by (message_size s) tape)

-- ---- for private clauses

-- the mark's place is one of its writer's
abbrev pub IsPlaced : Script → Mark → Type 0
IsPlaced s m = m.place < count s m.writer

abbrev pub ArePlaced : Script → List Mark → Type 0
ArePlaced s tape = AllByRecursion (IsPlaced s) tape

-- The statement has a line: stamp and statement fit the table, the statement is a message's, and neither text is too wide.
pub record Prints (table : Map) (stamp : Option ℕ) (stm : Statement) : Type 0 where
  pub stamp_fits : FitsStamp table (stamp_of table) (stamp_args stamp)
  pub fits : Fits table stm.index stm.args
  pub logged : IsLogged table stm.index
  pub narrow : IsWide table (stamp_args stamp) stm.index stm.args → ⊥
