-- The nine lines that set up a generated script are read, one after another.
use Rattle.std.proofs.Common.{◌≡◌, ◌<◌, ◌+◌, ℕ, Bool, true, false, List, [], ◌∷◌, ◌++◌, None, Result, Ok, Err, refl, sym, ap, subst, ◌∙◌, inl, inr, lit≤, lit<, arith}
use Rattle.std.specs.Prelude.{codes, if◌then◌else◌, is_some, nat_lt, not}
use Rattle.std.specs.FinMap as name_map
use Rattle.std.proofs.lemmas.Bool.Decides.{nat_tests}
use Rattle.defmt_generate.proofs.Fields.{said}
use Rattle.defmt_generate.proofs.Texts.{tested}
use Rattle.defmt_generate.proofs.Words.{boot_pieces, boot_spells, fail_pieces, fail_spells, link_pieces, link_spells, temp_pieces, temp_spells, tick_pieces, tick_spells}
use Rattle.defmt_generate.specs.Lines.{head_lines}
use Rattle.defmt_grammar.specs.Cut.{cut}
use Rattle.defmt_grammar.specs.declared.fault.Mode.TheVariants.{Strict}
use Rattle.defmt_grammar.specs.declared.language.Language.TheVariants.{Base}
use Rattle.defmt_intern.specs.declared.entry.Tag.{Tag}
use Rattle.defmt_intern.specs.declared.entry.Tag.TheVariants as tags
use Rattle.defmt_lines.specs.Form.{in_order}
use Rattle.defmt_lines.proofs.SettingLaws.{set_found}
use Rattle.defmt_lines.specs.Line.{Line, Says, entry, entry_of, field_and_rest, head, one_field, two_fields, line_by_word}
use Rattle.defmt_shapes.specs.Shape.{is_name}
use Rattle.defmt_lines.specs.Number.{has_leading_zero, is_digits, number_within, within}
use Rattle.defmt_lines.specs.Settings.{with_mode, with_reader, with_ring, with_stamp, with_words}
use Rattle.defmt_lines.specs.Verdict.{Judges}
use Rattle.defmt_lines.specs.declared.cause.Cause.{Cause}
use Rattle.defmt_lines.specs.declared.cause.Cause.TheVariants as causes
use Rattle.defmt_lines.specs.declared.form.Form.{Form}
use Rattle.defmt_lines.specs.declared.form.Form.TheVariants as forms
use Rattle.defmt_script.specs.Reads.{ReadsLines, Takes, TakesString, admits_string, sets, string_at, takes_string, with_string}
use Rattle.defmt_script.specs.Script.{Script, count_strings}
use Rattle.defmt_script.specs.Script.{Refusal, Script, count_strings}
use Rattle.defmt_script.specs.State.{State, no_lines, strings_limit}
use Rattle.defmt_generate.proofs.States.{four_names, four_strings, four_yet, new_name, no_strings, none_yet, one_name, one_string, one_yet, ready, settled, three_names, three_strings, three_yet, two_names, two_strings, two_yet}

abbrev Answer : Type 0
Answer = Result Script Refusal

abbrev Taken : Type 0
Taken = Result State Cause

-- ---- a line

line_taken : (before after : State) (number : ℕ) (bytes : List ℕ) (line : Line) (more : List (List ℕ)) (read : Answer)
    → Says bytes line → Takes before line (Ok after) → ReadsLines after (number + 1) more read → ReadsLines before number (bytes ∷ more) read
line_taken before after number bytes line more read says takes rest = inl (line, after, says, takes, rest)

-- ---- settings

abbrev ring_line : Line
ring_line = head forms.Ring (codes "1024" ∷ [])

abbrev mode_line : Line
mode_line = head forms.Mode (codes "block" ∷ [])

abbrev reader_line : Line
reader_line = head forms.Reader (codes "live" ∷ [])

abbrev stamp_line : Line
stamp_line = head forms.Stamp (codes "1000" ∷ codes "250" ∷ [])

-- what the words of a line set is taken where its form may come
setting_taken : (before after : State) (form : Form) (words : List (List ℕ)) → sets before form (with_words form words before.script.settings) ≡ Ok after → Takes before (head form words) (Ok after)
setting_taken before after form words is = (with_words form words before.script.settings, set_found form words before.script.settings, sym is)

ring_taken : Takes no_lines ring_line (Ok (settled forms.Mode None))
unfolding with_ring number_within is_digits has_leading_zero within
ring_taken = setting_taken no_lines (settled forms.Mode None) forms.Ring (codes "1024" ∷ []) refl

mode_taken : Takes (settled forms.Mode None) mode_line (Ok (settled forms.Reader None))
unfolding with_mode
mode_taken = setting_taken (settled forms.Mode None) (settled forms.Reader None) forms.Mode (codes "block" ∷ []) refl

reader_taken : Takes (settled forms.Reader None) reader_line (Ok (settled forms.Stamp None))
unfolding with_reader
reader_taken = setting_taken (settled forms.Reader None) (settled forms.Stamp None) forms.Reader (codes "live" ∷ []) refl

stamp_taken : Takes (settled forms.Stamp None) stamp_line (Ok no_strings)
unfolding with_stamp number_within is_digits has_leading_zero within
stamp_taken = setting_taken (settled forms.Stamp None) no_strings forms.Stamp (codes "1000" ∷ codes "250" ∷ []) refl

ring_said : Says (codes "ring 1024") ring_line
unfolding line_by_word one_field cut
ring_said = said (codes "ring 1024") ring_line (tested (codes "ring 1024") refl) refl

mode_said : Says (codes "mode block") mode_line
unfolding line_by_word one_field cut
mode_said = said (codes "mode block") mode_line (tested (codes "mode block") refl) refl

reader_said : Says (codes "reader live") reader_line
unfolding line_by_word one_field cut
reader_said = said (codes "reader live") reader_line (tested (codes "reader live") refl) refl

stamp_said : Says (codes "stamp 1000 250") stamp_line
unfolding line_by_word one_field two_fields cut
stamp_said = said (codes "stamp 1000 250") stamp_line (tested (codes "stamp 1000 250") refl) refl

-- ---- strings

abbrev Admitted : Type 0
Admitted = Result (Unit {0}) Cause

abbrev admits : Admitted
admits = Ok tt

abbrev refuses : Cause → Admitted
refuses cause = Err cause

admitted : (a b c : Bool) → a ≡ true → b ≡ true → c ≡ false → (if not a then refuses causes.Line else if not b then refuses causes.Name else if c then refuses causes.Double else admits) ≡ admits
admitted true true false e f g = refl
admitted true true true e f g = absurd (cc g)
admitted true false c e f g = absurd (cc f)
admitted false b c e f g = absurd (cc e)

below : (m n : ℕ) → m < n → nat_lt m n ≡ true
below m n lt = grind (arith, nat_tests)

-- a new string behind so many
string_taken : (n : ℕ) (s : State) (name : List ℕ) (tag : Tag) (text : List ℕ) → in_order s.first forms.Entry ≡ true → is_name name ≡ true → name_map.get s.script.names name ≡ None
    → count_strings s.script ≡ n → n < 65534 → Judges s.script.table.language tag text None → Takes s (entry name tag text) (Ok (string_at (n + 1) s name tag text))
string_taken n s name tag text first spelled new is few judged =
    let taken : Taken = Ok (string_at (n + 1) s name tag text) in
    let next : Taken = Ok (with_string s name tag text) in
    let fits : admits_string s name ≡ admits = admitted (in_order s.first forms.Entry) (is_name name) (is_some (name_map.get s.script.names name)) first spelled (ap is_some new) in
    let room : nat_lt (count_strings s.script) strings_limit ≡ true = below (count_strings s.script) strings_limit (omega (arith, is, few)) in
    let open_yet : next ≡ takes_string s name tag text None = rw room refl in
    let same : taken ≡ next = ap (λ (k : ℕ). let t : Taken = Ok (string_at (k + 1) s name tag text) in t) (sym is) in
    subst (λ (a : Admitted). TakesString s name tag text a taken) (sym fits) (None, judged, same ∙ open_yet)

boot_judged : Judges Base tags.Info (codes "boot {=u8}") None
unfolding Judges
boot_judged = inr (lit≤ tt, inl (boot_pieces, boot_spells Strict, refl))

boot_taken : Takes no_strings (entry (codes "boot") tags.Info (codes "boot {=u8}")) (Ok one_string)
boot_taken = string_taken 0 no_strings (codes "boot") tags.Info (codes "boot {=u8}") refl refl (new_name [] (codes "boot") refl) none_yet (lit< tt) boot_judged

boot_said : Says (codes "s boot defmt_info boot {=u8}") (entry (codes "boot") tags.Info (codes "boot {=u8}"))
unfolding line_by_word entry_of field_and_rest cut
boot_said = said (codes "s boot defmt_info boot {=u8}") (entry (codes "boot") tags.Info (codes "boot {=u8}")) (tested (codes "s boot defmt_info boot {=u8}") refl) refl

temp_judged : Judges Base tags.Debug (codes "temp {=i16} of {=[u8]:02x}") None
unfolding Judges
temp_judged = inr (lit≤ tt, inl (temp_pieces, temp_spells Strict, refl))

temp_taken : Takes one_string (entry (codes "temp") tags.Debug (codes "temp {=i16} of {=[u8]:02x}")) (Ok two_strings)
temp_taken = string_taken 1 one_string (codes "temp") tags.Debug (codes "temp {=i16} of {=[u8]:02x}") refl refl (new_name one_name (codes "temp") refl) one_yet (lit< tt) temp_judged

temp_said : Says (codes "s temp defmt_debug temp {=i16} of {=[u8]:02x}") (entry (codes "temp") tags.Debug (codes "temp {=i16} of {=[u8]:02x}"))
unfolding line_by_word entry_of field_and_rest cut
temp_said = said (codes "s temp defmt_debug temp {=i16} of {=[u8]:02x}") (entry (codes "temp") tags.Debug (codes "temp {=i16} of {=[u8]:02x}")) (tested (codes "s temp defmt_debug temp {=i16} of {=[u8]:02x}") refl) refl

link_judged : Judges Base tags.Warn (codes "link {=bool} {=str:?}") None
unfolding Judges
link_judged = inr (lit≤ tt, inl (link_pieces, link_spells Strict, refl))

link_taken : Takes two_strings (entry (codes "link") tags.Warn (codes "link {=bool} {=str:?}")) (Ok three_strings)
link_taken = string_taken 2 two_strings (codes "link") tags.Warn (codes "link {=bool} {=str:?}") refl refl (new_name two_names (codes "link") refl) two_yet (lit< tt) link_judged

link_said : Says (codes "s link defmt_warn link {=bool} {=str:?}") (entry (codes "link") tags.Warn (codes "link {=bool} {=str:?}"))
unfolding line_by_word entry_of field_and_rest cut
link_said = said (codes "s link defmt_warn link {=bool} {=str:?}") (entry (codes "link") tags.Warn (codes "link {=bool} {=str:?}")) (tested (codes "s link defmt_warn link {=bool} {=str:?}") refl) refl

fail_judged : Judges Base tags.Error (codes "fail {=u32:#010x}") None
unfolding Judges
fail_judged = inr (lit≤ tt, inl (fail_pieces, fail_spells Strict, refl))

fail_taken : Takes three_strings (entry (codes "fail") tags.Error (codes "fail {=u32:#010x}")) (Ok four_strings)
fail_taken = string_taken 3 three_strings (codes "fail") tags.Error (codes "fail {=u32:#010x}") refl refl (new_name three_names (codes "fail") refl) three_yet (lit< tt) fail_judged

fail_said : Says (codes "s fail defmt_error fail {=u32:#010x}") (entry (codes "fail") tags.Error (codes "fail {=u32:#010x}"))
unfolding line_by_word entry_of field_and_rest cut
fail_said = said (codes "s fail defmt_error fail {=u32:#010x}") (entry (codes "fail") tags.Error (codes "fail {=u32:#010x}")) (tested (codes "s fail defmt_error fail {=u32:#010x}") refl) refl

tick_judged : Judges Base tags.Trace (codes "tick {=u64}") None
unfolding Judges
tick_judged = inr (lit≤ tt, inl (tick_pieces, tick_spells Strict, refl))

tick_taken : Takes four_strings (entry (codes "tick") tags.Trace (codes "tick {=u64}")) (Ok ready)
tick_taken = string_taken 4 four_strings (codes "tick") tags.Trace (codes "tick {=u64}") refl refl (new_name four_names (codes "tick") refl) four_yet (lit< tt) tick_judged

tick_said : Says (codes "s tick defmt_trace tick {=u64}") (entry (codes "tick") tags.Trace (codes "tick {=u64}"))
unfolding line_by_word entry_of field_and_rest cut
tick_said = said (codes "s tick defmt_trace tick {=u64}") (entry (codes "tick") tags.Trace (codes "tick {=u64}")) (tested (codes "s tick defmt_trace tick {=u64}") refl) refl

-- ---- all nine

pub head_read : (more : List (List ℕ)) (read : Answer) → ReadsLines ready 10 more read → ReadsLines no_lines 1 (head_lines ++ more) read
head_read more read rest =
    let from_tick : List (List ℕ) = codes "s tick defmt_trace tick {=u64}" ∷ more in
    let tick_on : ReadsLines four_strings 9 from_tick read = line_taken four_strings ready 9 (codes "s tick defmt_trace tick {=u64}") (entry (codes "tick") tags.Trace (codes "tick {=u64}")) more read tick_said tick_taken rest in
    let from_fail : List (List ℕ) = codes "s fail defmt_error fail {=u32:#010x}" ∷ from_tick in
    let fail_on : ReadsLines three_strings 8 from_fail read = line_taken three_strings four_strings 8 (codes "s fail defmt_error fail {=u32:#010x}") (entry (codes "fail") tags.Error (codes "fail {=u32:#010x}")) from_tick read fail_said fail_taken tick_on in
    let from_link : List (List ℕ) = codes "s link defmt_warn link {=bool} {=str:?}" ∷ from_fail in
    let link_on : ReadsLines two_strings 7 from_link read = line_taken two_strings three_strings 7 (codes "s link defmt_warn link {=bool} {=str:?}") (entry (codes "link") tags.Warn (codes "link {=bool} {=str:?}")) from_fail read link_said link_taken fail_on in
    let from_temp : List (List ℕ) = codes "s temp defmt_debug temp {=i16} of {=[u8]:02x}" ∷ from_link in
    let temp_on : ReadsLines one_string 6 from_temp read = line_taken one_string two_strings 6 (codes "s temp defmt_debug temp {=i16} of {=[u8]:02x}") (entry (codes "temp") tags.Debug (codes "temp {=i16} of {=[u8]:02x}")) from_link read temp_said temp_taken link_on in
    let from_boot : List (List ℕ) = codes "s boot defmt_info boot {=u8}" ∷ from_temp in
    let boot_on : ReadsLines no_strings 5 from_boot read = line_taken no_strings one_string 5 (codes "s boot defmt_info boot {=u8}") (entry (codes "boot") tags.Info (codes "boot {=u8}")) from_temp read boot_said boot_taken temp_on in
    let from_stamp : List (List ℕ) = codes "stamp 1000 250" ∷ from_boot in
    let stamp_on : ReadsLines (settled forms.Stamp None) 4 from_stamp read = line_taken (settled forms.Stamp None) no_strings 4 (codes "stamp 1000 250") stamp_line from_boot read stamp_said stamp_taken boot_on in
    let from_reader : List (List ℕ) = codes "reader live" ∷ from_stamp in
    let reader_on : ReadsLines (settled forms.Reader None) 3 from_reader read = line_taken (settled forms.Reader None) (settled forms.Stamp None) 3 (codes "reader live") reader_line from_stamp read reader_said reader_taken stamp_on in
    let from_mode : List (List ℕ) = codes "mode block" ∷ from_reader in
    let mode_on : ReadsLines (settled forms.Mode None) 2 from_mode read = line_taken (settled forms.Mode None) (settled forms.Reader None) 2 (codes "mode block") mode_line from_reader read mode_said mode_taken reader_on in
    line_taken no_lines (settled forms.Mode None) 1 (codes "ring 1024") ring_line from_mode read ring_said ring_taken mode_on
