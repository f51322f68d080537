-- A script stays as it must be behind a string, and where no more strings come.
use Rattle.std.proofs.Common.{◌≡◌, ◌≢◌, ◌≤◌, ◌<◌, ◌+◌, ◌⊎◌, inl, inr, ℕ, Bool, true, false, cond, List, Option, Some, None, refl, sym, ◌∙◌, ap, subst, arith, length}
use Rattle.std.specs.Prelude.{IsSome, is_some}
use Rattle.std.specs.FinMap as name_map
use Rattle.std.proofs.lemmas.Bool.{cases_eq, cond-true}
use Rattle.std.proofs.lemmas.Option.{same_Some}
use Rattle.defmt_grammar.specs.declared.language.Language.{Language}
use Rattle.defmt_intern.specs.Entries as map
use Rattle.defmt_intern.specs.Table.{Map, IsStamp, InsertRefused, IsLawful as IsLawfulTable}
use Rattle.defmt_intern.specs.declared.entry.Entry.{Entry}
use Rattle.defmt_intern.specs.declared.entry.Tag.{Tag}
use Rattle.defmt_intern.specs.declared.entry.Tag.TheVariants as tags
use Rattle.defmt_intern.proofs.TableLaws.{apart, here}
use Rattle.defmt_lines.specs.Form.{StringsAreOver, StringsMayCome, in_order}
use Rattle.defmt_lines.specs.Line.{is_string_tag}
use Rattle.defmt_lines.specs.declared.form.Form.{Form}
use Rattle.defmt_lines.specs.declared.form.Form.TheVariants as forms
use Rattle.defmt_lines.specs.declared.settings.Settings.{Settings}
use Rattle.defmt_lines.specs.Verdict.{Judges, JudgesBody}
use Rattle.defmt_script.proofs.Counts.{len-added}
use Rattle.defmt_script.specs.Lawful.{HasStamp, IsLawful}
use Rattle.defmt_script.specs.Reads.{string_at, with_string}
use Rattle.defmt_script.specs.Script.{next_index}
use Rattle.defmt_script.specs.State.{State, closed, entry_at, stamp_entry, with_stamp_entry}
use Rattle.defmt_script.specs.Steady.{IsOpen, IsSteady}
use Rattle.defmt_script.specs.Turns.{IsTold}
use Rattle.defmt_spelling.specs.Names.{NameMap}
use Rattle.defmt_values.specs.declared.value.Statement.{Statement}
use Rattle.rtt_terminal.specs.Speech.{Speech}
use Rattle.defmt_script.proofs.Steadiness.{none_sound, over_or_not, state}

-- ---- strings

-- as many names or more, and a table that is the same
pub kept_steady : (first : Form) (s : Settings) (table same : Map) (names more : NameMap) (writers : List (List Statement)) (said : Speech)
    → IsSteady (state first s table names writers said) → same ≡ table → name_map.len names ≤ name_map.len more → name_map.len more ≤ 65534 → IsSteady (state first s same more writers said)
kept_steady first s table same names more writers said h is most fits = subst (λ (t : Map). IsSteady (state first s t more writers said)) (sym is) (record {
  settings = h.settings;
  language = h.language;
  not_late = h.not_late;
  strings_fit = fits;
  opened = λ may. let o = h.opened may in record {
    within = λ index some. omega (arith, o.within index some, most);
    no_stamp = o.no_stamp;
    no_writers = o.no_writers;
  };
  whole = h.whole;
  eight = h.eight;
  few = h.few;
  sound = h.sound;
})

-- an entry with a short text may be put behind the strings
pub is_free : (s : State) (k : ℕ) (entry : Entry) → IsOpen s → k ≡ next_index s.script → length entry.text ≤ 4096 → (cause : ℕ) → InsertRefused s.script.table k entry cause → ⊥
is_free s k entry o is short cause (inl h) = absurd (omega (arith, o.within k h.1, is))
is_free s k entry o is short cause (inr (h, inl q)) = absurd (omega (arith, q.1, short))
is_free s k entry o is short cause (inr (h, inr q)) = o.no_stamp q.2.1.0 q.2.1.1

found_or_before : (table : Map) (k : ℕ) (entry other : Entry) (index : ℕ) → map.get (map.insert table k entry) index ≡ Some other → ((index ≡ k) × (entry ≡ other)) ⊎ (map.get table index ≡ Some other)
found_or_before table k entry other index is = elim (cases_eq index k) [
  | inl same ↦ inl (same, same_Some entry other (sym (here table k entry) ∙ ap (map.get (map.insert table k entry)) (sym same) ∙ is))
  | inr other_index ↦ inr (sym (apart table k entry index other_index) ∙ is)
]

pub some_or_before : (table : Map) (k : ℕ) (entry : Entry) (index : ℕ) → IsSome (map.get (map.insert table k entry) index) → (index ≡ k) ⊎ IsSome (map.get table index)
some_or_before table k entry index some = elim (cases_eq index k) [
  | inl same ↦ inl same
  | inr other_index ↦ inr (subst (λ (o : Option Entry). IsSome o) (apart table k entry index other_index) some)
]

pub not_stamp : (tag : Tag) → is_string_tag tag ≡ true → tag ≢ tags.Timestamp
not_stamp tag is e = let clash : true ≡ false = sym is ∙ ap is_string_tag e in absurd (cc clash)

pub string_steady : (first : Form) (k : ℕ) (s : Settings) (table more : Map) (names : NameMap) (writers : List (List Statement)) (said : Speech) (name : List ℕ) (entry : Entry)
    → IsSteady (state first s table names writers said) → StringsMayCome first → name_map.get names name ≡ None → k ≡ name_map.len names + 1 → k ≤ 65534 → is_string_tag entry.tag ≡ true
    → more ≡ map.insert table k entry → IsSteady (state forms.Entry s more (name_map.insert names name k) writers said)
string_steady first k s table more names writers said name entry h may new next_is fits tag more_is =
    let o : IsOpen (state first s table names writers said) = h.opened may in
    let names_more : NameMap = name_map.insert names name k in
    let len : name_map.len names_more ≡ k = len-added names name k new ∙ sym next_is in
    subst (λ (t : Map). IsSteady (state forms.Entry s t names_more writers said)) (sym more_is) (record {
      settings = h.settings;
      language = h.language;
      not_late = λ reader. absurd (let clash : false ≡ true = reader in cc clash);
      strings_fit = omega (arith, len, fits);
      opened = λ _. record {
        within = λ index some. elim (some_or_before table k entry index some) [
          | inl same ↦ omega (arith, same, len)
          | inr before ↦ omega (arith, o.within index before, len, next_is)
        ];
        no_stamp = λ index stamp. elim (found_or_before table k entry stamp.entry index stamp.there) [
          | inl new ↦ not_stamp entry.tag tag (ap (λ (e : Entry). e.tag) new.1 ∙ stamp.is_stamp)
          | inr before ↦ o.no_stamp index (record { entry = stamp.entry; there = before; is_stamp = stamp.is_stamp })
        ];
        no_writers = o.no_writers;
      };
      whole = λ over. absurd (over_or_not forms.Entry refl over);
      eight = h.eight;
      few = h.few;
      sound = none_sound writers (map.insert table k entry) s o.no_writers;
    })

-- what the reading has behind a string that it puts at the next index
pub string_added : (old inside : State) (k : ℕ) (name : List ℕ) (tag : Tag) (text : List ℕ) (entry : Entry) (table : Map) (names : NameMap)
    → inside ≡ old → k ≡ next_index inside.script → entry ≡ entry_at k tag text → table ≡ map.insert inside.script.table k entry → names ≡ name_map.insert inside.script.names name k
    → state forms.Entry inside.script.settings table names inside.script.writers inside.script.said ≡ with_string old name tag text
string_added old inside k name tag text entry table names inside_is next_is entry_is table_is names_are =
    let more : table ≡ map.insert inside.script.table k (entry_at k tag text) = table_is ∙ ap (map.insert inside.script.table k) entry_is in
    ap (λ (t : Map). state forms.Entry inside.script.settings t names inside.script.writers inside.script.said) more
    ∙ ap (λ (m : NameMap). state forms.Entry inside.script.settings (map.insert inside.script.table k (entry_at k tag text)) m inside.script.writers inside.script.said) names_are
    ∙ ap (λ (n : ℕ). string_at n inside name tag text) next_is
    ∙ ap (λ (s : State). with_string s name tag text) inside_is

-- ---- the table made whole

has_no_stamp : (stamp : Option (ℕ × ℕ)) (table : Map) → is_some stamp ≡ false → ((index : ℕ) → IsStamp table index → ⊥) → HasStamp stamp table
has_no_stamp None table none h = h
has_no_stamp (Some p) table none h = absurd (cc none)

has_its_stamp : (stamp : Option (ℕ × ℕ)) (table : Map) (k : ℕ) → is_some stamp ≡ true → HasStamp stamp (map.insert table k (stamp_entry k))
has_its_stamp None table k some = absurd (cc some)
has_its_stamp (Some p) table k some = (k, stamp_entry k, here table k (stamp_entry k), refl, refl)

stamped_table : (stamp : Option (ℕ × ℕ)) (k : ℕ) (table : Map) → is_some stamp ≡ true → map.insert table k (stamp_entry k) ≡ with_stamp_entry stamp k table
stamped_table None k table some = absurd (cc some)
stamped_table (Some p) k table some = refl

-- what the reading has behind the timestamp's entry that it puts at the next index
pub stamp_added : (old inside : State) (k : ℕ) (entry : Entry) (table : Map) → inside ≡ old → k ≡ next_index inside.script → StringsMayCome inside.first
    → is_some inside.script.settings.stamp ≡ true → entry ≡ stamp_entry k → table ≡ map.insert inside.script.table k entry
    → state forms.Statement inside.script.settings table inside.script.names inside.script.writers inside.script.said ≡ closed old
stamp_added old inside k entry table inside_is next_is may some entry_is table_is =
    let put : table ≡ map.insert inside.script.table k (stamp_entry k) = table_is ∙ ap (map.insert inside.script.table k) entry_is in
    let next : map.insert inside.script.table k (stamp_entry k) ≡ map.insert inside.script.table (next_index inside.script) (stamp_entry (next_index inside.script)) =
    ap (λ (n : ℕ). map.insert inside.script.table n (stamp_entry n)) next_is in
    let whole : table ≡ with_stamp_entry inside.script.settings.stamp (next_index inside.script) inside.script.table =
    put ∙ next ∙ stamped_table inside.script.settings.stamp (next_index inside.script) inside.script.table some in
    ap (λ (t : Map). state forms.Statement inside.script.settings t inside.script.names inside.script.writers inside.script.said) whole
    ∙ sym (cond-true (in_order inside.first forms.Entry) _ inside may) ∙ ap closed inside_is

-- behind the strings no reader may come, and no string
no_reader : {P : Type 0} → in_order forms.Statement forms.Reader ≡ true → P
no_reader may = absurd (let clash : false ≡ true = may in cc clash)

no_string : {P : Type 0} → StringsMayCome forms.Statement → P
no_string may = absurd (over_or_not forms.Statement may refl)

pub unstamped_steady : (first : Form) (s : Settings) (table : Map) (names : NameMap) (writers : List (List Statement)) (said : Speech)
    → IsSteady (state first s table names writers said) → StringsMayCome first → is_some s.stamp ≡ false → IsSteady (state forms.Statement s table names writers said)
unstamped_steady first s table names writers said h may none =
    let o : IsOpen (state first s table names writers said) = h.opened may in record {
      settings = h.settings;
      language = h.language;
      not_late = λ reader. no_reader reader;
      strings_fit = h.strings_fit;
      opened = λ string. no_string string;
      whole = λ _. has_no_stamp s.stamp table none o.no_stamp;
      eight = h.eight;
      few = h.few;
      sound = h.sound;
    }

pub stamped_steady : (first : Form) (k : ℕ) (s : Settings) (table more : Map) (names : NameMap) (writers : List (List Statement)) (said : Speech)
    → IsSteady (state first s table names writers said) → StringsMayCome first → is_some s.stamp ≡ true → more ≡ map.insert table k (stamp_entry k)
    → IsSteady (state forms.Statement s more names writers said)
stamped_steady first k s table more names writers said h may some more_is =
    let o : IsOpen (state first s table names writers said) = h.opened may in
    subst (λ (t : Map). IsSteady (state forms.Statement s t names writers said)) (sym more_is) (record {
      settings = h.settings;
      language = h.language;
      not_late = λ reader. no_reader reader;
      strings_fit = h.strings_fit;
      opened = λ string. no_string string;
      whole = λ _. has_its_stamp s.stamp table k some;
      eight = h.eight;
      few = h.few;
      sound = none_sound writers (map.insert table k (stamp_entry k)) s o.no_writers;
    })

over_if : (b : Bool) (s t : State) → StringsAreOver t.first → (b ≡ false → StringsAreOver s.first) → StringsAreOver (cond b t s).first
over_if true s t new old = new
over_if false s t new old = old refl

-- what is closed has no more strings
pub over_closed : (s : State) → StringsAreOver (closed s).first
over_closed s = over_if (in_order s.first forms.Entry) s _ refl (λ is. is)

pub lawful_closed : (s : State) → IsSteady s → StringsAreOver s.first → IsLawfulTable s.script.table → IsTold s.script → IsLawful s.script
lawful_closed s h over table told = record {
  settings = h.settings;
  table = table;
  language = h.language;
  stamp = h.whole over;
  eight = h.eight;
  few = h.few;
  sound = h.sound;
  said = told.0;
  turns = told.1;
}

-- ---- what is found of a string

judged_by : (language : Language) (tag : Tag) (text : List ℕ) (v : Option ℕ) → v ≡ None → ((4096 < length text) × (v ≡ Some 0)) ⊎ ((length text ≤ 4096) × JudgesBody language tag text v) → length text ≤ 4096
judged_by language tag text v none (inl h) = let clash : None ≡ Some 0 = sym none ∙ h.1 in absurd (cc clash)
judged_by language tag text v none (inr h) = h.0

-- a text that is taken is short
pub judged_short : (language : Language) (tag : Tag) (text : List ℕ) (v : Option ℕ) → v ≡ None → Judges language tag text v → length text ≤ 4096
unfolding Judges
judged_short language tag text v none h = judged_by language tag text v none h
