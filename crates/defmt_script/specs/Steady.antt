-- What holds of a script of which some lines are read.
use Rattle.std.specs.Prelude.{◌≡◌, ◌≤◌, ℕ, length, IsSome, false}
use Rattle.std.specs.List.{AllByRecursion}
use Rattle.defmt_intern.specs.Entries as map
use Rattle.defmt_intern.specs.Table.{IsStamp, Map}
use Rattle.defmt_lines.specs.Form.{IsSetting, ReaderMayCome, StringsAreOver, StringsMayCome, next}
use Rattle.defmt_lines.specs.Settings.{AreLawful}
use Rattle.defmt_lines.specs.declared.form.Form.{Form}
use Rattle.defmt_lines.specs.declared.settings.Settings.{Settings}
use Rattle.defmt_script.specs.Lawful.{AllAreSound, HasStamp, IsSound, statements_limit}
use Rattle.defmt_script.specs.Script.{count_statements, count_strings}
use Rattle.defmt_script.specs.State.{State, no_statements, strings_limit, table_behind}
use Rattle.defmt_script.specs.Turns.{IsTold}

-- No statement was yet: the table has strings alone.
pub record IsOpen (s : State) : Type 0 where
  pub within : (index : ℕ) → IsSome (map.get s.script.table index) → index ≤ count_strings s.script
  pub no_stamp : (index : ℕ) → IsStamp s.script.table index → ⊥
  pub no_writers : s.script.writers ≡ no_statements

pub record IsSteady (s : State) : Type 0 where
  pub settings : AreLawful s.script.settings
  pub language : s.script.table.language ≡ s.script.settings.language
  pub not_late : ReaderMayCome s.first → s.script.settings.late ≡ false
  pub strings_fit : count_strings s.script ≤ strings_limit
  pub opened : StringsMayCome s.first → IsOpen s
  pub whole : StringsAreOver s.first → HasStamp s.script.settings.stamp s.script.table
  pub eight : length s.script.writers ≡ 8
  pub few : count_statements s.script ≤ statements_limit
  pub sound : AllByRecursion
      (λ list. AllByRecursion (IsSound s.script.table s.script.settings) list) s.script.writers

-- Settings behind a line of this form, which had another value before: the table has their language, and a reader may be late only
-- behind its own line.
pub record StaysLawful (form : Form) (before s : Settings) : Type 0 where
  pub setting : IsSetting form
  pub lawful : AreLawful s
  pub language : (table : Map) → table.language ≡ before.language
      → (table_behind form s.language table).language ≡ s.language
  pub not_late : ReaderMayCome (next form) → s.late ≡ false

-- What holds of a reading, which keeps how many strings and statements there are beside the script, and of its texts.
pub record IsCounted (strings statements : ℕ) (s : State) : Type 0 where
  pub steady : IsSteady s
  pub strings_are : strings ≡ count_strings s.script
  pub statements_are : statements ≡ count_statements s.script
  pub told : IsTold s.script
  pub sound : AllAreSound s.script.writers
