-- What holds of every script.
use Rattle.std.specs.Prelude.{◌≡◌, ◌≤◌, ℕ, List, codes, length, Option, Some, None, option_map}
use Rattle.std.specs.List.{AllByRecursion}
use Rattle.defmt_eager.specs.Line.{printed_limit}
use Rattle.defmt_eager.specs.Show.{eager_text}
use Rattle.defmt_encode.specs.Carry.{message_of, stamp_args}
use Rattle.defmt_encode.specs.Out.{message_limit}
use Rattle.defmt_encode.specs.Placed.{place_in}
use Rattle.defmt_intern.specs.Entries as map
use Rattle.defmt_intern.specs.Table.{Map, IsStamp, IsLawful as IsLawfulTable}
use Rattle.defmt_intern.specs.declared.entry.Entry.{Entry}
use Rattle.defmt_intern.specs.declared.entry.Tag.TheVariants.{Timestamp}
use Rattle.defmt_lines.specs.Settings.{AreLawful}
use Rattle.defmt_lines.specs.declared.settings.Settings.{Settings}
use Rattle.defmt_script.specs.Script.{Script, base_of, count_all}
use Rattle.defmt_script.specs.Turns.{HasTurns}
use Rattle.defmt_values.specs.Fits.{Fits, IsLogged}
use Rattle.defmt_values.specs.Sound.{AreSound}
use Rattle.defmt_values.specs.declared.value.Statement.{Statement}
use Rattle.rtt_terminal.specs.Speech.{IsSpeech}

-- the most statements
abbrev pub statements_limit : ℕ
statements_limit = 4096

-- the stamp that a message carries: none where the script has no stamps
abbrev pub stamp_in : Option (ℕ × ℕ) → ℕ → Option ℕ
stamp_in stamp n = option_map (λ p. n) stamp

-- the message of a statement as the mark with this number, with this stamp where there are stamps
abbrev pub message_with : Map → Settings → ℕ → ℕ → Statement → List ℕ
message_with table s number n stm =
    message_of table (place_in s.profile number)
    (stamp_args (stamp_in s.stamp n)) stm.index stm.args

-- the message of a statement as the first mark, with the first stamp where there are stamps
abbrev pub first_message : Map → Settings → Statement → List ℕ
first_message table s stm =
    message_of table (place_in s.profile 0) (stamp_args (base_of s.stamp)) stm.index stm.args

-- The statement fits the table, is a message's, and neither its message, whatever its mark and its stamp, nor its text is too long.
pub record IsSound (table : Map) (s : Settings) (stm : Statement) : Type 0 where
  pub fits : Fits table stm.index stm.args
  pub logged : IsLogged table stm.index
  pub short : (number n : ℕ) → length (message_with table s number n stm) ≤ message_limit
  pub narrow : length (eager_text table stm.index stm.args) ≤ printed_limit

-- The values of all statements are what their types say.
abbrev pub AllAreSound : List (List Statement) → Type 0
AllAreSound writers = AllByRecursion (λ list. AllByRecursion (λ stm. AreSound stm.args) list) writers

-- The table has a timestamp's entry exactly where there are stamps, and its text is `{=u64:us}`.
abbrev pub HasStamp : Option (ℕ × ℕ) → Map → Type 0
HasStamp None table = (index : ℕ) → IsStamp table index → ⊥
HasStamp (Some p) table = (index : ℕ) × (entry : Entry) × (map.get table index ≡ Some entry)
    × (entry.tag ≡ Timestamp) × (entry.text ≡ codes "{=u64:us}")

pub record IsLawful (s : Script) : Type 0 where
  pub settings : AreLawful s.settings
  pub table : IsLawfulTable s.table
  pub language : s.table.language ≡ s.settings.language
  pub stamp : HasStamp s.settings.stamp s.table
  pub eight : length s.writers ≡ 8
  pub few : count_all s.writers ≤ statements_limit
  pub sound : AllByRecursion (λ list. AllByRecursion (IsSound s.table s.settings) list) s.writers
  pub said : IsSpeech s.said
  pub turns : HasTurns s
