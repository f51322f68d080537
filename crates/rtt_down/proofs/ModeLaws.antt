-- Which line of a script sets the ring's mode.
use Rattle.std.proofs.Common.{◌≡◌, ◌+◌, inl, inr, ℕ, Bool, true, false, cond, not, List, [], ◌∷◌, Option, Some, None, Result, Ok, Err, refl, sym, ◌∙◌, ap, subst, length, arith}
use Rattle.std.specs.Prelude.{◌==◌, nat_lt}
use Rattle.std.specs.Str.Lines.{lines}
use Rattle.std.proofs.lemmas.Bool.Decides.{nat_tests}
use Rattle.defmt_eager.specs.Line.{printed_limit}
use Rattle.defmt_eager.specs.Show.{eager_text}
use Rattle.defmt_encode.specs.Out.{message_limit}
use Rattle.defmt_intern.specs.declared.entry.Tag.{Tag}
use Rattle.defmt_lines.proofs.LineLaws.{one_line}
use Rattle.defmt_lines.specs.Form.{in_order, next}
use Rattle.defmt_lines.specs.Line.{Line, blank, head, entry, act, other, Says}
use Rattle.defmt_lines.specs.Settings.{Sets, is_block}
use Rattle.defmt_lines.specs.declared.cause.Cause.{Cause}
use Rattle.defmt_lines.specs.declared.cause.Cause.TheVariants as causes
use Rattle.defmt_lines.specs.declared.form.Form.{Form}
use Rattle.defmt_lines.specs.declared.form.Form.TheVariants as forms
use Rattle.defmt_lines.specs.declared.settings.Settings.{Settings}
use Rattle.defmt_script.specs.Lawful.{first_message}
use Rattle.rtt_down.specs.Modes.{FirstMode, IsMode, is_mode_line}
use Rattle.defmt_script.specs.Reads.{Reads, ReadsLines, Takes, TakesAction, TakesString, TakesStatement, admits_statement, admits_string, admits_text, takes_arguments, takes_string, takes_text, with_settings, with_statement, with_string, with_text}
use Rattle.defmt_script.specs.Script.{Script, count_strings, next_index}
use Rattle.defmt_script.specs.State.{State, closed, no_lines, strings_limit, table_behind, with_stamp_entry}
use Rattle.defmt_values.specs.Plain.{Vals}
use Rattle.defmt_values.specs.declared.value.Statement.{Statement}

-- ---- the search, line by line

-- what is found behind the first `number` lines is what is found of the text
pub record IsSearch (number : ℕ) (rest text : List ℕ) : Type 0 where
  pub then : (found : Option ℕ) → FirstMode (number + 1) (lines rest) found → FirstMode 1 (lines text) found

pub begins : (text : List ℕ) → IsSearch 0 text text
begins text = record { then = λ found h. h }

is_mode : (bytes : List ℕ) (line : Line) → Says bytes line → is_mode_line line ≡ true → IsMode bytes
is_mode bytes (head forms.Mode words) says is = (words, says)
is_mode bytes line says is = absurd (cc is)

isnt_mode : (bytes : List ℕ) (line : Line) → Says bytes line → is_mode_line line ≡ false → IsMode bytes → ⊥
isnt_mode bytes line says is (words, mode) =
    let same : line ≡ head forms.Mode words = one_line bytes line (head forms.Mode words) says mode in
    let clash : false ≡ true = sym is ∙ ap is_mode_line same in
    absurd (cc clash)

pub goes_on : (number : ℕ) (rest text bytes after : List ℕ) (line : Line) → IsSearch number rest text → lines rest ≡ bytes ∷ lines after → Says bytes line → is_mode_line line ≡ false
    → IsSearch (number + 1) after text
goes_on number rest text bytes after line search_is parts says is = record {
  then = λ found h. search_is.then found (subst (λ (ls : List (List ℕ)). FirstMode (number + 1) ls found) (sym parts) (inr (isnt_mode bytes line says is, h)));
}

pub found_at : (number : ℕ) (rest text bytes after : List ℕ) (line : Line) → IsSearch number rest text → lines rest ≡ bytes ∷ lines after → Says bytes line → is_mode_line line ≡ true
    → FirstMode 1 (lines text) (Some (number + 1))
found_at number rest text bytes after line search_is parts says is =
    search_is.then (Some (number + 1)) (subst (λ (ls : List (List ℕ)). FirstMode (number + 1) ls (Some (number + 1))) (sym parts) (inl (is_mode bytes line says is, refl)))

pub none_there : (number : ℕ) (rest text : List ℕ) → IsSearch number rest text → (length rest == 0) ≡ true → FirstMode 1 (lines text) None
none_there number [] text search_is is = search_is.then None refl
none_there number (b ∷ rest) text search_is is = absurd (grind (arith, nat_tests))

-- ---- what lines do to the settings

abbrev Answer : Type 0
Answer = Result State Cause

if_not : (b : Bool) (cause : Cause) (x : Answer) (after : State) → Ok after ≡ cond b (Err cause) x → Ok after ≡ x
if_not true cause x after is = absurd (cc is)
if_not false cause x after is = is

if_so : (b : Bool) (cause : Cause) (x : Answer) (after : State) → Ok after ≡ cond b x (Err cause) → Ok after ≡ x
if_so true cause x after is = is
if_so false cause x after is = absurd (cc is)

settings_if : (b : Bool) (s t : State) → t.script.settings ≡ s.script.settings → (cond b t s).script.settings ≡ s.script.settings
settings_if true s t is = is
settings_if false s t is = refl

settings_closed : (s : State) → (closed s).script.settings ≡ s.script.settings
settings_closed s = settings_if (in_order s.first forms.Entry) s (record s {
  first = forms.Statement;
  script = record s.script { table = with_stamp_entry s.script.settings.stamp (next_index s.script) s.script.table };
}) refl

-- no other line changes the mode
mode_kept : (form : Form) (words : List (List ℕ)) (s t : Settings) → Sets form words s (Ok t) → is_mode_line (head form words) ≡ false → t.mode ≡ s.mode
mode_kept forms.Language (word ∷ []) s t set is = ap (λ (x : Settings). x.mode) set.2
mode_kept forms.Ring (word ∷ []) s t set is = ap (λ (x : Settings). x.mode) set.2
mode_kept forms.Reader (word ∷ []) s t set is = ap (λ (x : Settings). x.mode) set.3
mode_kept forms.Stamp (base ∷ step ∷ []) s t set is = ap (λ (x : Settings). x.mode) set.3
mode_kept forms.Profile (word ∷ []) s t set is = ap (λ (x : Settings). x.mode) set.2
mode_kept forms.Order (number ∷ word ∷ []) s t set is = ap (λ (x : Settings). x.mode) set.4
mode_kept forms.Mode words s t set is = absurd (cc is)
mode_kept form words s t set is = absurd (cc set)

set_by : (before after : State) (form : Form) (words : List (List ℕ)) (set : Result Settings Cause) → Sets form words before.script.settings set → is_mode_line (head form words) ≡ false
    → Ok after ≡ with_settings before form set → after.script.settings.mode ≡ before.script.settings.mode
set_by before after form words (Err cause) given is taken = absurd (cc taken)
set_by before after form words (Ok t) given is taken =
    let same : after ≡ record before { first = next form; script = record before.script { settings = t; table = table_behind form t.language before.script.table } } = cc taken in
    ap (λ (x : State). x.script.settings.mode) same ∙ mode_kept form words before.script.settings t given is

string_by : (before after : State) (name : List ℕ) (tag : Tag) (text : List ℕ) (verdict : Option ℕ) → Ok after ≡ takes_string before name tag text verdict → after.script.settings ≡ before.script.settings
string_by before after name tag text (Some inner) is = absurd (cc is)
string_by before after name tag text None is =
    let taken : Ok after ≡ Ok (with_string before name tag text) = if_so (nat_lt (count_strings before.script) strings_limit) causes.Many (Ok (with_string before name tag text)) after is in
    let same : after ≡ with_string before name tag text = cc taken in
    ap (λ (x : State). x.script.settings) same

entry_by : (before after : State) (name : List ℕ) (tag : Tag) (text : List ℕ) (admits : Result (Unit {0}) Cause) → TakesString before name tag text admits (Ok after) → after.script.settings ≡ before.script.settings
entry_by before after name tag text (Err cause) taken = absurd (cc taken)
entry_by before after name tag text (Ok done) taken = string_by before after name tag text taken.0 taken.2

arguments_by : (before after : State) (p : ℕ × ℕ) (args : Result Vals ℕ) → Ok after ≡ takes_arguments before p args → after.script.settings ≡ before.script.settings
arguments_by before after p (Err inner) is = absurd (cc is)
arguments_by before after p (Ok args) is =
    let stm : Statement = record { index = p.1; args = args } in
    let wide : Bool = nat_lt printed_limit (length (eager_text before.script.table stm.index stm.args)) in
    let taken : Answer = Ok (with_statement before p.0 stm) in
    let short = if_not (nat_lt message_limit (length (first_message before.script.table before.script.settings stm))) causes.Long (cond wide (Err causes.Wide) taken) after is in
    let narrow = if_not wide causes.Wide taken after short in
    let same : after ≡ with_statement before p.0 stm = cc narrow in
    ap (λ (x : State). x.script.settings) same

statement_by : (before after : State) (text : List ℕ) (admits : Result (ℕ × ℕ) Cause) → TakesStatement before text admits (Ok after) → after.script.settings ≡ before.script.settings
statement_by before after text (Err cause) taken = absurd (cc taken)
statement_by before after text (Ok p) taken = arguments_by before after p taken.0 taken.2

said_by : (before after : State) (text : List ℕ) (admits : Result (ℕ × ℕ) Cause) → Ok after ≡ takes_text before text admits → after.script.settings ≡ before.script.settings
said_by before after text (Err cause) taken = absurd (cc taken)
said_by before after text (Ok p) taken = let same : after ≡ with_text before p.0 p.1 text = cc taken in ap (λ (x : State). x.script.settings) same

action_by : (before after : State) (form : Form) (writer : Option ℕ) (field more : List ℕ) → TakesAction before form writer field more (Ok after) → after.script.settings ≡ before.script.settings
action_by before after forms.Statement writer field more taken = statement_by (closed before) after more (admits_statement (closed before) writer field) taken ∙ settings_closed before
action_by before after forms.Say writer field more taken = said_by (closed before) after more (admits_text (closed before) writer field more) taken ∙ settings_closed before
action_by before after form writer field more taken = absurd (cc taken)

line_by : (before after : State) (line : Line) → Takes before line (Ok after) → is_mode_line line ≡ false → after.script.settings.mode ≡ before.script.settings.mode
line_by before after blank taken is = let same : after ≡ before = cc taken in ap (λ (x : State). x.script.settings.mode) same
line_by before after (head form words) taken is =
    set_by before after form words taken.0 taken.1 is (if_so (in_order before.first form) causes.Line (with_settings before form taken.0) after taken.2)
line_by before after (entry name tag text) taken is = ap (λ (x : Settings). x.mode) (entry_by before after name tag text (admits_string before name) taken)
line_by before after (act form writer field more) taken is = ap (λ (x : Settings). x.mode) (action_by before after form writer field more taken)
line_by before after other taken is = absurd (cc taken)

-- ---- the law

by_test : (b : Bool) → (b ≡ true → ⊥) → b ≡ false
by_test true none = absurd (none refl)
by_test false none = refl

not_mode_line : (bytes : List ℕ) (line : Line) → Says bytes line → (IsMode bytes → ⊥) → is_mode_line line ≡ false
not_mode_line bytes line says none = by_test (is_mode_line line) (λ is. none (is_mode bytes line says is))

-- where no line sets it, the mode is the one before
unset : (before : State) (number : ℕ) (ls : List (List ℕ)) (script : Script) → ReadsLines before number ls (Ok script) → FirstMode number ls None → script.settings.mode ≡ before.script.settings.mode
unset before number [] script reads none =
    let same : script ≡ (closed before).script = cc reads in
    ap (λ (x : Script). x.settings.mode) same ∙ ap (λ (x : Settings). x.mode) (settings_closed before)
unset before number (bytes ∷ more) script (inl (line, after, says, takes, reads)) (inl (mode, is)) = absurd (cc is)
unset before number (bytes ∷ more) script (inl (line, after, says, takes, reads)) (inr (not, none)) =
    unset after (number + 1) more script reads none ∙ line_by before after line takes (not_mode_line bytes line says not)
unset before number (bytes ∷ more) script (inr (line, cause, says, takes, reads)) none = absurd (cc reads)

pub modes_are_set : (text : List ℕ) (script : Script) → Reads text (Ok script) → is_block script.settings.mode ≡ false → FirstMode 1 (lines text) None → ⊥
modes_are_set text script reads not none =
    let same : script.settings.mode ≡ no_lines.script.settings.mode = unset no_lines 1 (lines text) script reads none in
    let clash : false ≡ true = sym not ∙ ap is_block same in
    absurd (cc clash)
