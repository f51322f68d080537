-- The script that a text reads as is lawful.
use Rattle.std.proofs.Common.{◌≡◌, ◌≤◌, ℕ, Bool, true, false, cond, List, Option, Some, None, Ok, refl, sym, ◌∙◌, ap, subst, arith, length, lit≤}
use Rattle.std.specs.Prelude.{IsSome, is_some}
use Rattle.defmt_grammar.specs.declared.language.Language.{Language}
use Rattle.defmt_grammar.specs.declared.language.Language.TheVariants.{Base}
use Rattle.defmt_intern.specs.Entries as map
use Rattle.defmt_intern.proofs.EntriesLaws.{get-empty_of}
use Rattle.defmt_intern.proofs.TableLaws.{kept_other, kept_stamp, no_refusal}
use Rattle.defmt_intern.specs.Table.{EntryRefused, IsKept, IsLawful as IsLawfulTable}
use Rattle.defmt_intern.specs.declared.entry.Entry.{Entry}
use Rattle.defmt_intern.specs.declared.entry.Tag.{Tag}
use Rattle.defmt_lines.specs.Form.{StringsMayCome, in_order, next}
use Rattle.defmt_lines.specs.Settings.{Sets}
use Rattle.defmt_lines.specs.declared.form.Form.{Form}
use Rattle.defmt_lines.specs.declared.form.Form.TheVariants as forms
use Rattle.defmt_lines.specs.declared.settings.Settings.{Settings}
use Rattle.defmt_script.proofs.Settled.{stays}
use Rattle.defmt_script.proofs.StatementSteadiness.{sound_of, statement_steady}
use Rattle.defmt_script.proofs.Steadiness.{behind_line, no_stamp_there, said_steady, sets_steady, steady_at_first}
use Rattle.defmt_script.proofs.StringSteadiness.{lawful_closed, not_stamp, stamped_steady, string_steady, unstamped_steady}
use Rattle.defmt_script.proofs.Kept.{reads_kept}
use Rattle.defmt_script.proofs.Steps.{IsAdded, IsSaid, IsTaken, Keeps, set_to}
use Rattle.defmt_script.proofs.TurnLaws.{told_first, told_statement, told_text}
use Rattle.defmt_script.specs.Lawful.{IsLawful}
use Rattle.defmt_script.specs.Reads.{Reads, with_statement, with_string, with_text}
use Rattle.defmt_script.specs.Script.{Script, add_statement, next_index}
use Rattle.defmt_script.specs.State.{State, entry_at, no_lines, stamp_entry, with_stamp_entry}
use Rattle.defmt_script.specs.Steady.{IsOpen, IsSteady}
use Rattle.defmt_script.specs.Turns.{IsTold}
use Rattle.defmt_values.specs.declared.value.Statement.{Statement}

record IsLaid (s : State) : Type 0 where
  steady : IsSteady s
  table : IsLawfulTable s.script.table
  told : IsTold s.script

-- an empty table is lawful
nothing : (language : Language) (index : ℕ) (entry : Entry) → map.get (map.empty_of language) index ≡ Some entry → ⊥
nothing language index entry there = let none : None ≡ Some entry = sym (get-empty_of language index) ∙ there in absurd (cc none)

empty_lawful : (language : Language) → IsLawfulTable (map.empty_of language)
empty_lawful language = record {
  small = λ index entry there. absurd (nothing language index entry there);
  short = λ index entry there. absurd (nothing language index entry there);
  one_stamp = λ i j a b. absurd (no_stamp_there language i a);
}

set_laid : (s : State) (form : Form) (words : List (List ℕ)) (t : Settings) → in_order s.first form ≡ true → Sets form words s.script.settings (Ok t) → IsLaid s → IsLaid (set_to s form t)
set_laid s form words t order given h = record {
  steady = sets_steady s.first (next form) form s.script.settings t s.script.table s.script.names s.script.writers s.script.said h.steady order
      (stays s.first form words s.script.settings t h.steady.settings h.steady.not_late given order) refl;
  table = behind_line IsLawfulTable form t.language s.script.table h.table (empty_lawful t.language);
  told = h.told;
}

-- a table without a timestamp
kept_open : (s : State) → IsOpen s → IsLawfulTable s.script.table → IsKept s.script.table None
kept_open s o table = record { lawful = table; stamp_is = o.no_stamp }

-- an entry with a short text isn't refused there
is_sound : (s : State) (entry : Entry) → IsOpen s → length entry.text ≤ 4096 → (cause : ℕ) → EntryRefused s.script.table entry cause → ⊥
is_sound s entry o short = no_refusal s.script.table entry short (λ second. o.no_stamp second.1.0 second.1.1)

string_laid : (s : State) (name : List ℕ) (tag : Tag) (text : List ℕ) (n : ℕ) → IsAdded s name tag text n → IsLaid s → IsLaid (with_string s name tag text)
string_laid s name tag text n i h =
    let k : ℕ = next_index s.script in
    let entry : Entry = entry_at k tag text in
    let o : IsOpen s = h.steady.opened i.may in
    let free : IsSome (map.get s.script.table k) → ⊥ = λ some. absurd (omega (arith, o.within k some)) in
    record {
      steady = string_steady s.first k s.script.settings s.script.table (map.insert s.script.table k entry) s.script.names s.script.writers s.script.said name entry
          h.steady i.may i.new refl (omega (arith, i.room)) i.string refl;
      table = (kept_other s.script.table None k entry (kept_open s o h.table) (omega (arith, i.room)) free (is_sound s entry o i.short) (not_stamp tag i.string)).lawful;
      told = h.told;
    }

stamped_laid : (stamp : Option (ℕ × ℕ)) (s : State) → s.script.settings.stamp ≡ stamp → StringsMayCome s.first → IsLaid s
    → IsLaid (record s { first = forms.Statement; script = record s.script { table = with_stamp_entry stamp (next_index s.script) s.script.table } })
stamped_laid None s is may h = record {
  steady = unstamped_steady s.first s.script.settings s.script.table s.script.names s.script.writers s.script.said h.steady may (ap is_some is);
  table = h.table;
  told = h.told;
}
stamped_laid (Some p) s is may h =
    let k : ℕ = next_index s.script in
    let o : IsOpen s = h.steady.opened may in
    record {
      steady = stamped_steady s.first k s.script.settings s.script.table (map.insert s.script.table k (stamp_entry k)) s.script.names s.script.writers s.script.said h.steady may (ap is_some is) refl;
      table = (kept_stamp s.script.table None k (stamp_entry k) (kept_open s o h.table) (omega (arith, h.steady.strings_fit)) (is_sound s (stamp_entry k) o (lit≤ tt)) refl).lawful;
      told = h.told;
    }

closed_by : (b : Bool) (s : State) → in_order s.first forms.Entry ≡ b → IsLaid s
    → IsLaid (cond b (record s { first = forms.Statement; script = record s.script { table = with_stamp_entry s.script.settings.stamp (next_index s.script) s.script.table } }) s)
closed_by true s is h = stamped_laid s.script.settings.stamp s refl is h
closed_by false s is h = h

statement_laid : (s : State) (writer : ℕ) (stm : Statement) → IsTaken s writer stm → IsLaid s → IsLaid (with_statement s writer stm)
statement_laid s writer stm taken h = record {
  steady = statement_steady s.first s.script.settings s.script.table s.script.names s.script.writers (add_statement writer stm s.script.writers) s.script.said writer stm
      h.steady taken.over taken.eight taken.room (sound_of s.script.table s.script.settings stm taken.fits taken.message taken.short taken.narrow) refl;
  table = h.table;
  told = told_statement s writer stm h.told;
}

text_laid : (s : State) (writer terminal : ℕ) (text : List ℕ) → IsSaid s writer terminal text → IsLaid s → IsLaid (with_text s writer terminal text)
text_laid s writer terminal text said h = record {
  steady = said_steady s (with_text s writer terminal text).script.said h.steady;
  table = h.table;
  told = told_text s writer terminal text h.told said.eight said.can said.room;
}

abbrev Laid : State → ℕ → Type 0
Laid s bytes = IsLaid s

keeps_laid : Keeps Laid
keeps_laid = record {
  more = λ s b n h. h;
  settings = λ s form words t b order given h. set_laid s form words t order given h;
  string = λ s name tag text b n i h. string_laid s name tag text n i h;
  closes = λ s b h. closed_by (in_order s.first forms.Entry) s refl h;
  statement = λ s writer stm b taken h. statement_laid s writer stm taken h;
  text = λ s writer terminal text b said h. text_laid s writer terminal text said h;
}

begins_laid : IsLaid no_lines
begins_laid = record {
  steady = steady_at_first;
  table = empty_lawful Base;
  told = told_first no_lines.script refl;
}

pub scripts_are_lawful : (text : List ℕ) (script : Script) → Reads text (Ok script) → IsLawful script
scripts_are_lawful text script reads =
    let ends = reads_kept Laid keeps_laid text script reads begins_laid in
    subst IsLawful (sym ends.script_is) (lawful_closed ends.last ends.holds.steady ends.over ends.holds.table ends.holds.told)
