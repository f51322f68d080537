-- What holds of a script of which some lines are read: at the start, behind a setting and behind a text.
use Rattle.std.proofs.Common.{◌≡◌, ℕ, true, false, List, Some, None, refl, sym, ◌∙◌, ap, subst, arith, lit≤}
use Rattle.std.specs.FinMap as name_map
use Rattle.std.specs.List.{AllByRecursion}
use Rattle.std.specs.Prelude.{IsSome, is_some}
use Rattle.defmt_grammar.specs.declared.language.Language.{Language}
use Rattle.defmt_grammar.specs.declared.language.Language.TheVariants.{Base}
use Rattle.defmt_intern.specs.Entries as map
use Rattle.defmt_intern.specs.Table.{Map, IsStamp}
use Rattle.defmt_intern.proofs.EntriesLaws.{get-empty_of}
use Rattle.defmt_lines.proofs.FormLaws.{strings_before, strings_behind}
use Rattle.defmt_lines.specs.Form.{StringsAreOver, StringsMayCome, in_order, next}
use Rattle.defmt_lines.specs.Settings.{AreLawful, no_settings}
use Rattle.defmt_lines.specs.declared.form.Form.{Form}
use Rattle.defmt_lines.specs.declared.form.Form.TheVariants as forms
use Rattle.defmt_lines.specs.declared.settings.Settings.{Settings}
use Rattle.defmt_script.proofs.Counts.{no_names, none_named}
use Rattle.defmt_script.proofs.TurnLaws.{told_first}
use Rattle.defmt_script.specs.Lawful.{AllAreSound, IsSound}
use Rattle.defmt_script.specs.Script.{count_all}
use Rattle.defmt_script.specs.State.{State, no_lines, no_statements, table_behind}
use Rattle.defmt_script.specs.Steady.{IsCounted, IsOpen, IsSteady, StaysLawful}
use Rattle.defmt_spelling.specs.Names.{NameMap}
use Rattle.defmt_values.specs.declared.value.Statement.{Statement}
use Rattle.rtt_terminal.specs.Speech.{Speech, silence}

-- a state by its parts
abbrev pub state : Form → Settings → Map → NameMap → List (List Statement) → Speech → State
state first settings table names writers said = record {
  first = first;
  script = record { settings = settings; table = table; names = names; writers = writers; said = said };
}

-- strings and statements that may come make a contradiction
pub over_or_not : (first : Form) → StringsMayCome first → StringsAreOver first → ⊥
over_or_not first may over = let clash : true ≡ false = sym may ∙ over in cc clash

-- ---- at the start

-- an empty table has no entry, and so no timestamp's
pub nowhere : (language : Language) (index : ℕ) → IsSome (map.get (map.empty_of language) index) → ⊥
nowhere language index some = let clash : false ≡ true = sym (ap is_some (get-empty_of language index)) ∙ some in cc clash

pub no_stamp_there : (language : Language) (index : ℕ) → IsStamp (map.empty_of language) index → ⊥
no_stamp_there language index h = let none : None ≡ Some h.entry = sym (get-empty_of language index) ∙ h.there in absurd (cc none)

-- what holds of a table and of an empty one holds behind each line
pub behind_line : (P : Map → Type 0) (form : Form) (language : Language) (table : Map) → P table → P (map.empty_of language) → P (table_behind form language table)
behind_line P forms.Language language table old new = new
behind_line P form language table old new = old

settings_at_first : AreLawful no_settings
settings_at_first = record {
  least = lit≤ tt;
  most = lit≤ tt;
  not_late = λ _. refl;
  stamp_within = λ p is. absurd (cc is);
  few_orders = omega arith;
  orders_within = tt;
}

-- an empty table is open
empty_open : (first : Form) (s : Settings) (language : Language) (names : NameMap) (writers : List (List Statement)) (said : Speech) → writers ≡ no_statements → IsOpen (state first s (map.empty_of language) names writers said)
empty_open first s language names writers said none = record {
  within = λ index some. absurd (nowhere language index some);
  no_stamp = no_stamp_there language;
  no_writers = none;
}

pub steady_at_first : IsSteady no_lines
steady_at_first = record {
  settings = settings_at_first;
  language = refl;
  not_late = λ _. refl;
  strings_fit = omega (arith, no_names);
  opened = λ _. empty_open forms.Language no_settings Base name_map.empty no_statements (silence 8) refl;
  whole = λ over. absurd (over_or_not forms.Language refl over);
  eight = refl;
  few = lit≤ tt;
  sound = (tt, (tt, (tt, (tt, (tt, (tt, (tt, (tt, tt))))))));
}

pub begins_steady : (settings : Settings) (table : Map) (names : NameMap) (writers : List (List Statement)) (said : Speech) → settings ≡ no_settings → table ≡ map.empty → names ≡ name_map.empty → writers ≡ no_statements
    → said ≡ silence 8 → IsCounted 0 0 (state forms.Language settings table names writers said)
begins_steady settings table names writers said a b c d e =
    let same : state forms.Language settings table names writers said ≡ no_lines = λ i. state forms.Language (a i) (b i) (c i) (d i) (e i) in record {
      steady = subst IsSteady (sym same) steady_at_first;
      strings_are = sym (none_named names c);
      statements_are = sym (ap count_all d);
      told = told_first (state forms.Language settings table names writers said).script e;
      sound = subst AllAreSound (sym d) (tt, (tt, (tt, (tt, (tt, (tt, (tt, (tt, tt))))))));
    }

-- ---- settings

pub none_sound : (writers : List (List Statement)) (table : Map) (s : Settings) → writers ≡ no_statements
    → AllByRecursion (λ list. AllByRecursion (IsSound table s) list) writers
none_sound writers table s is =
    subst (λ (ws : List (List Statement)). AllByRecursion (λ list. AllByRecursion (IsSound table s) list) ws) (sym is)
    (tt, (tt, (tt, (tt, (tt, (tt, (tt, (tt, tt))))))))

pub sets_steady : (first after form : Form) (s t : Settings) (table : Map) (names : NameMap) (writers : List (List Statement)) (said : Speech)
    → IsSteady (state first s table names writers said) → in_order first form ≡ true → StaysLawful form s t → after ≡ next form
    → IsSteady (state after t (table_behind form t.language table) names writers said)
sets_steady first after form s t table names writers said h order stays is =
    let o : IsOpen (state first s table names writers said) = h.opened (strings_before first form order stays.setting) in
    let behind : Map = table_behind form t.language table in
    subst (λ (f : Form). IsSteady (state f t behind names writers said)) (sym is) (record {
      settings = stays.lawful;
      language = stays.language table h.language;
      not_late = stays.not_late;
      strings_fit = h.strings_fit;
      opened = λ _.
          behind_line (λ (m : Map). IsOpen (state (next form) t m names writers said)) form t.language table (record { within = o.within; no_stamp = o.no_stamp; no_writers = o.no_writers })
          (empty_open (next form) t t.language names writers said o.no_writers);
      whole = λ over. absurd (over_or_not (next form) (strings_behind form stays.setting) over);
      eight = h.eight;
      few = h.few;
      sound = none_sound writers behind t o.no_writers;
    })

-- ---- texts for terminals

-- texts change nothing of the rest
pub said_steady : (s : State) (said : Speech) → IsSteady s → IsSteady (record s { script = record s.script { said = said } })
said_steady s said h = record {
  settings = h.settings;
  language = h.language;
  not_late = h.not_late;
  strings_fit = h.strings_fit;
  opened = λ may. let o = h.opened may in record { within = o.within; no_stamp = o.no_stamp; no_writers = o.no_writers };
  whole = h.whole;
  eight = h.eight;
  few = h.few;
  sound = h.sound;
}
