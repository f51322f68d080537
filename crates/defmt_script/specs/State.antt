-- A script of which some lines are read.
use Rattle.std.specs.Prelude.{ℕ, List, [], ◌∷◌, codes, Option, Some, None, if◌then◌else◌}
use Rattle.std.specs.FinMap as name_map
use Rattle.std.specs.Fmt.{decimal}
use Rattle.defmt_grammar.specs.declared.language.Language.{Language}
use Rattle.defmt_intern.specs.Entries as map
use Rattle.defmt_intern.specs.Table.{Map}
use Rattle.defmt_intern.specs.declared.entry.Entry.{Entry}
use Rattle.defmt_intern.specs.declared.entry.Tag.{Tag}
use Rattle.defmt_intern.specs.declared.entry.Tag.TheVariants as tags
use Rattle.defmt_lines.specs.Form.{in_order}
use Rattle.defmt_lines.specs.Settings.{no_settings}
use Rattle.defmt_lines.specs.declared.form.Form.{Form}
use Rattle.defmt_lines.specs.declared.form.Form.TheVariants as forms
use Rattle.defmt_script.specs.Script.{Script, next_index}
use Rattle.defmt_values.specs.declared.value.Statement.{Statement}
use Rattle.rtt_terminal.specs.Speech.{silence}

-- The first form of line that may come, and the script so far.
pub record State : Type 0 where
  pub first : Form
  pub script : Script

-- the most strings: an index is left for the timestamp
abbrev pub strings_limit : ℕ
strings_limit = 65534

abbrev pub no_statements : List (List Statement)
no_statements = [] ∷ [] ∷ [] ∷ [] ∷ [] ∷ [] ∷ [] ∷ [] ∷ []

abbrev pub empty_script : Script
empty_script = record {
  settings = no_settings;
  table = map.empty;
  names = name_map.empty;
  writers = no_statements;
  said = silence 8;
}

abbrev pub no_lines : State
no_lines = record { first = forms.Language; script = empty_script }

-- behind the line of its language a script has an empty table of it
abbrev pub table_behind : Form → Language → Map → Map
table_behind forms.Language language table = map.empty_of language
table_behind form language table = table

-- an entry of a script, which has its index for its disambiguator
abbrev pub entry_at : ℕ → Tag → List ℕ → Entry
entry_at index tag text = record {
  tag = tag;
  «package» = codes "script";
  text = text;
  disambiguator = decimal index;
}

abbrev pub stamp_entry : ℕ → Entry
stamp_entry index = entry_at index tags.Timestamp (codes "{=u64:us}")

-- the table with the timestamp's entry behind the strings, where there are stamps
abbrev pub with_stamp_entry : Option (ℕ × ℕ) → ℕ → Map → Map
with_stamp_entry None index table = table
with_stamp_entry (Some p) index table = map.insert table index (stamp_entry index)

-- No string comes any more: the table is whole. A first statement, a first text for a terminal or the end of the text makes it so.
abbrev pub closed : State → State
closed s = if in_order s.first forms.Entry then record s {
  first = forms.Statement;
  script = record s.script {
    table = with_stamp_entry s.script.settings.stamp (next_index s.script) s.script.table;
  };
} else s
