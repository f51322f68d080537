-- The states behind each of the nine lines that set up a generated script, with their names and entries.
use Rattle.std.proofs.Common.{◌≡◌, ◌+◌, ℕ, false, List, [], ◌∷◌, Option, Some, None, refl, ap, ◌∙◌}
use Rattle.std.specs.Prelude.{codes}
use Rattle.std.specs.FinMap as name_map
use Rattle.std.specs.Cmp.Lexicographic.{nat_list_cmp_total, slice_cmp}
use Rattle.std.specs.Ordering.{nat_cmp}
use Rattle.defmt_grammar.specs.declared.language.Language.TheVariants.{Base}
use Rattle.defmt_intern.proofs.EntriesLaws.{get-from_entries}
use Rattle.defmt_intern.specs.Entries as map
use Rattle.defmt_intern.specs.Table.{Map}
use Rattle.defmt_intern.specs.declared.entry.Entry.{Entry}
use Rattle.defmt_intern.specs.declared.entry.Tag.TheVariants as tags
use Rattle.defmt_intern.specs.declared.table.Profile.TheVariants as profiles
use Rattle.defmt_lines.specs.declared.form.Form.{Form}
use Rattle.defmt_lines.specs.declared.form.Form.TheVariants as forms
use Rattle.defmt_lines.specs.declared.settings.RingMode.TheVariants.{Block}
use Rattle.defmt_lines.specs.declared.settings.Settings.{Settings}
use Rattle.defmt_script.proofs.Counts.{len-added, no_names}
use Rattle.defmt_script.specs.Reads.{string_at}
use Rattle.defmt_script.specs.Script.{count_strings}
use Rattle.defmt_script.specs.State.{State, entry_at, no_statements, stamp_entry}
use Rattle.defmt_spelling.specs.Names.{NameMap}
use Rattle.rtt_terminal.specs.Speech.{silence}

-- the settings with these stamps, the language Base, profile One and no orders
abbrev with_stamps : Option (ℕ × ℕ) → Settings
with_stamps stamps = record { language = Base; ring = 1024; mode = Block; late = false; stamp = stamps; profile = profiles.One; orders = [] }

-- the settings behind the first four lines
abbrev pub all_settings : Settings
all_settings = with_stamps (Some (1000, 250))

-- the settings so far, and no string
abbrev pub settled : Form → Option (ℕ × ℕ) → State
settled form stamps = record {
  first = form;
  script = record {
    settings = with_stamps stamps;
    table = map.empty;
    names = name_map.empty;
    writers = no_statements;
    said = silence 8;
  };
}

abbrev pub no_strings : State
no_strings = settled forms.Profile (Some (1000, 250))

abbrev pub one_string : State
one_string = string_at 1 no_strings (codes "boot") tags.Info (codes "boot {=u8}")

abbrev pub two_strings : State
two_strings = string_at 2 one_string (codes "temp") tags.Debug (codes "temp {=i16} of {=[u8]:02x}")

abbrev pub three_strings : State
three_strings = string_at 3 two_strings (codes "link") tags.Warn (codes "link {=bool} {=str:?}")

abbrev pub four_strings : State
four_strings = string_at 4 three_strings (codes "fail") tags.Error (codes "fail {=u32:#010x}")

-- behind the nine lines
abbrev pub ready : State
ready = string_at 5 four_strings (codes "tick") tags.Trace (codes "tick {=u64}")

-- ---- names and entries

abbrev Named : Type 0
Named = List (List ℕ × ℕ)

abbrev pub one_name : Named
one_name = (codes "boot", 1) ∷ []

abbrev pub two_names : Named
two_names = (codes "temp", 2) ∷ one_name

abbrev pub three_names : Named
three_names = (codes "link", 3) ∷ two_names

abbrev pub four_names : Named
four_names = (codes "fail", 4) ∷ three_names

abbrev five_names : Named
five_names = (codes "tick", 5) ∷ four_names

abbrev pub all_names : NameMap
all_names = name_map.from_entries five_names

abbrev Entries : Type 0
Entries = List (ℕ × Entry)

abbrev entries : Entries
entries =
    (6, stamp_entry 6)
    ∷ (5, entry_at 5 tags.Trace (codes "tick {=u64}"))
    ∷ (4, entry_at 4 tags.Error (codes "fail {=u32:#010x}"))
    ∷ (3, entry_at 3 tags.Warn (codes "link {=bool} {=str:?}"))
    ∷ (2, entry_at 2 tags.Debug (codes "temp {=i16} of {=[u8]:02x}"))
    ∷ (1, entry_at 1 tags.Info (codes "boot {=u8}")) ∷ []

abbrev pub full_table : Map
full_table = map.from_entries Base entries

pub name_there : (name : List ℕ) (index : Option ℕ) → name_map.find (slice_cmp nat_cmp) name five_names ≡ index → name_map.get all_names name ≡ index
name_there name index is = name_map.get-from_entries nat_list_cmp_total five_names name ∙ is

pub entry_there : (index : ℕ) (o : Option Entry) → name_map.find nat_cmp index entries ≡ o → map.get full_table index ≡ o
entry_there index o is = get-from_entries Base entries index ∙ is

pub new_name : (es : Named) (name : List ℕ) → name_map.find (slice_cmp nat_cmp) name es ≡ None → name_map.get (name_map.from_entries {R = slice_cmp nat_cmp} es) name ≡ None
new_name es name none = name_map.get-from_entries nat_list_cmp_total es name ∙ none

-- ---- how many strings there are

one_more : (names : NameMap) (name : List ℕ) (k n : ℕ) → name_map.get names name ≡ None → name_map.len names ≡ n → name_map.len (name_map.insert names name k) ≡ n + 1
one_more names name k n new is = len-added names name k new ∙ ap (λ (m : ℕ). m + 1) is

pub none_yet : count_strings no_strings.script ≡ 0
none_yet = no_names

pub one_yet : count_strings one_string.script ≡ 1
one_yet = one_more no_strings.script.names (codes "boot") 1 0 (new_name [] (codes "boot") refl) none_yet

pub two_yet : count_strings two_strings.script ≡ 2
two_yet = one_more one_string.script.names (codes "temp") 2 1 (new_name one_name (codes "temp") refl) one_yet

pub three_yet : count_strings three_strings.script ≡ 3
three_yet = one_more two_strings.script.names (codes "link") 3 2 (new_name two_names (codes "link") refl) two_yet

pub four_yet : count_strings four_strings.script ≡ 4
four_yet = one_more three_strings.script.names (codes "fail") 4 3 (new_name three_names (codes "fail") refl) three_yet

pub all_counted : count_strings ready.script ≡ 5
all_counted = one_more four_strings.script.names (codes "tick") 5 4 (new_name four_names (codes "tick") refl) four_yet
