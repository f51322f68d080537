-- How the logic stores scripts: as the tuple of their parts.
use Rattle.std.specs.Prelude.{List, refl}
use Rattle.std.specs.Coded.{Coded, code_by, coded×, coded_list, coded_ℕ}
use Rattle.std.specs.FinMap as map
use Rattle.defmt_intern.specs.Entries as entries
use Rattle.defmt_intern.specs.Table.{Map}
use Rattle.defmt_lines.specs.contracts.form.Form.{the_row as form_row}
use Rattle.defmt_lines.specs.contracts.settings.Settings.{the_row as settings_row}
use Rattle.defmt_lines.specs.declared.form.Form.{Form}
use Rattle.defmt_lines.specs.declared.settings.Settings.{Settings}
use Rattle.defmt_script.specs.Script.{Script}
use Rattle.defmt_script.specs.State.{State}
use Rattle.defmt_spelling.specs.Names.{NameMap}
use Rattle.defmt_values.specs.contracts.value.Statement.{the_row as statement_row}
use Rattle.defmt_values.specs.declared.value.Statement.{Statement}
use Rattle.rtt_terminal.specs.Codes.{coded_speech}
use Rattle.rtt_terminal.specs.Speech.{Speech}

abbrev coded_table : Coded Map
coded_table = entries.code

abbrev coded_names : Coded NameMap
coded_names = map.code (coded_list coded_ℕ) coded_ℕ

abbrev pub coded_statements : Coded (List Statement)
coded_statements = coded_list statement_row.coded

abbrev pub coded_script : Coded Script
coded_script = code_by (Settings × (Map × (NameMap × (List (List Statement) × Speech))))
    (coded× settings_row.coded (coded× coded_table (coded× coded_names
    (coded× (coded_list coded_statements) coded_speech))))
    (λ s. (s.settings, (s.table, (s.names, (s.writers, s.said)))))
    (λ p. record {
      settings = p.0;
      table = p.1.0;
      names = p.1.1.0;
      writers = p.1.1.1.0;
      said = p.1.1.1.1;
    })
    (λ _. refl)

abbrev pub coded_state : Coded State
coded_state = code_by (Form × Script)
    (coded× form_row.coded coded_script)
    (λ s. (s.first, s.script))
    (λ p. record { first = p.0; script = p.1 })
    (λ _. refl)
