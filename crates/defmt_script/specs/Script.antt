-- A script as plain data.
use Rattle.std.specs.Prelude.{◌+◌, ℕ, zero, suc, List, [], ◌∷◌, ◌++◌, length, Option, option_map, slice_index_or}
use Rattle.std.specs.FinMap as map
use Rattle.defmt_intern.specs.Table.{Map}
use Rattle.defmt_lines.specs.declared.settings.Settings.{Settings}
use Rattle.defmt_spelling.specs.Names.{NameMap}
use Rattle.defmt_values.specs.declared.value.Statement.{Statement}
use Rattle.rtt_terminal.specs.Speech.{Speech}

-- What the first lines set, the table with the strings from index 1 on, the names of these, and for each of the writers 0 to 7
-- its statements in their order, and the texts that it has to say on terminals.
pub record Script : Type 0 where
  pub settings : Settings
  pub table : Map
  pub names : NameMap
  pub writers : List (List Statement)
  pub said : Speech

-- how many strings it has: each has a name of its own
abbrev pub count_strings : Script → ℕ
count_strings s = map.len s.names

-- the index of the next string
abbrev pub next_index : Script → ℕ
next_index s = count_strings s + 1

-- the statements of a writer, none where there is no such writer
abbrev pub statements_by : Script → ℕ → List Statement
statements_by s writer = slice_index_or s.writers writer []

-- one statement more of a writer
abbrev pub add_statement : ℕ → Statement → List (List Statement) → List (List Statement)
add_statement writer stm [] = []
add_statement zero stm (list ∷ more) = (list ++ stm ∷ []) ∷ more
add_statement (suc writer) stm (list ∷ more) = list ∷ add_statement writer stm more

-- how many statements all writers have together
abbrev pub count_all : List (List Statement) → ℕ
count_all [] = 0
count_all (list ∷ more) = length list + count_all more

abbrev pub count_statements : Script → ℕ
count_statements s = count_all s.writers

-- the first stamp, where there are stamps
abbrev pub base_of : Option (ℕ × ℕ) → Option ℕ
base_of stamp = option_map (λ p. p.0) stamp

-- why a text is no script: the line, from 1, the number of its cause, and the number of the arguments' or the text's own cause or 0
pub record Refusal : Type 0 where
  pub line : ℕ
  pub cause : ℕ
  pub inner : ℕ
