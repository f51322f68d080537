-- The script that a text gives, or its first line that is refused.
use Rattle.std.specs.Prelude.{◌≡◌, ◌⊎◌, ◌+◌, ℕ, Bool, false, not, nat_lt, List, [], ◌∷◌, length, Option, Some, None, is_some, Result, Ok, Err, if◌then◌else◌}
use Rattle.std.specs.FinMap as name_map
use Rattle.std.specs.Str.Lines.{lines}
use Rattle.defmt_eager.specs.Line.{printed_limit}
use Rattle.defmt_eager.specs.Show.{eager_text}
use Rattle.defmt_encode.specs.Out.{message_limit}
use Rattle.defmt_intern.specs.Entries as map
use Rattle.defmt_intern.specs.Table.{Map}
use Rattle.defmt_intern.specs.declared.entry.Entry.{Entry}
use Rattle.defmt_intern.specs.declared.entry.Tag.{Tag}
use Rattle.defmt_lines.specs.Cause.{cause_number, inner_number}
use Rattle.defmt_lines.specs.Form.{in_order, next}
use Rattle.defmt_lines.specs.Line.{Line, blank, head, entry, act, other, Says}
use Rattle.defmt_lines.specs.Settings.{Sets}
use Rattle.defmt_lines.specs.Verdict.{Judges}
use Rattle.defmt_lines.specs.declared.cause.Cause.{Cause}
use Rattle.defmt_lines.specs.declared.cause.Cause.TheVariants as causes
use Rattle.defmt_lines.specs.declared.form.Form.{Form}
use Rattle.defmt_lines.specs.declared.form.Form.TheVariants as forms
use Rattle.defmt_lines.specs.declared.settings.Settings.{Settings}
use Rattle.defmt_script.specs.Lawful.{first_message, statements_limit}
use Rattle.defmt_script.specs.Script.{Script, Refusal, add_statement, count_statements, count_strings, next_index, statements_by}
use Rattle.defmt_script.specs.State.{State, closed, entry_at, no_lines, strings_limit, table_behind}
use Rattle.defmt_shapes.specs.Shape.{is_name}
use Rattle.defmt_spelling.specs.Spelling.{ReadsArguments}
use Rattle.defmt_values.specs.Entries.{look, is_logged}
use Rattle.defmt_values.specs.Plain.{Vals}
use Rattle.defmt_values.specs.declared.value.Statement.{Statement}
use Rattle.rtt_terminal.specs.Reading.{terminal_named}
use Rattle.rtt_terminal.specs.Sayable.{is_sayable}
use Rattle.rtt_terminal.specs.Speech.{count_texts, saying, texts_limit, with_saying}

-- Each line gives the script with that line, or the first cause why it is refused.

-- ---- settings, each form at most once, in their order, in front of the strings

abbrev pub with_settings : State → Form → Result Settings Cause → Result State Cause
with_settings before form (Ok s) =
    Ok (record before {
      first = next form;
      script = record before.script {
        settings = s;
        table = table_behind form s.language before.script.table;
      };
    })
with_settings before form (Err cause) = Err cause

abbrev pub sets : State → Form → Result Settings Cause → Result State Cause
sets before form settings =
    if in_order before.first form then with_settings before form settings else Err causes.Line

abbrev pub TakesSetting : State → Form → List (List ℕ) → Result State Cause → Type 0
TakesSetting before form words taken = (set : Result Settings Cause)
    × Sets form words before.script.settings set × (taken ≡ sets before form set)

-- ---- strings: `s NAME TAG TEXT`

-- in order, spelled as a name, and new
abbrev pub admits_string : State → List ℕ → Result (Unit {0}) Cause
admits_string before name =
    if not (in_order before.first forms.Entry) then Err causes.Line
    else if not (is_name name) then Err causes.Name
    else if is_some (name_map.get before.script.names name) then Err causes.Double
    else Ok tt

-- with a string at this index
abbrev pub string_at : ℕ → State → List ℕ → Tag → List ℕ → State
string_at index before name tag text = record before {
  first = forms.Entry;
  script = record before.script {
    table = map.insert before.script.table index (entry_at index tag text);
    names = name_map.insert before.script.names name index;
  };
}

abbrev pub with_string : State → List ℕ → Tag → List ℕ → State
with_string before name tag text = string_at (next_index before.script) before name tag text

abbrev pub takes_string : State → List ℕ → Tag → List ℕ → Option ℕ → Result State Cause
takes_string before name tag text (Some inner) = Err (causes.Text inner)
takes_string before name tag text None =
    if nat_lt (count_strings before.script) strings_limit then Ok (with_string before name tag text)
    else Err causes.Many

-- the text is looked at where its name is admitted
abbrev pub TakesString : State → List ℕ → Tag → List ℕ → Result (Unit {0}) Cause
    → Result State Cause → Type 0
TakesString before name tag text (Err cause) taken = taken ≡ Err cause
TakesString before name tag text (Ok admitted) taken = (verdict : Option ℕ)
    × Judges before.script.table.language tag text verdict
    × (taken ≡ takes_string before name tag text verdict)

-- ---- statements: `w WRITER NAME ARGS`

abbrev pub is_message_of : Option Entry → Bool
is_message_of None = false
is_message_of (Some e) = is_logged e.tag

-- the entry is a level's or println's
abbrev pub is_message : Map → ℕ → Bool
is_message table index = is_message_of (look table index)

abbrev pub admits_index : State → ℕ → Option ℕ → Result (ℕ × ℕ) Cause
admits_index before writer None = Err causes.Name
admits_index before writer (Some index) =
    if not (is_message before.script.table index) then Err causes.Name
    else if nat_lt (count_statements before.script) statements_limit then Ok (writer, index)
    else Err causes.Many

-- the writer and the index of the name
abbrev pub admits_statement : State → Option ℕ → List ℕ → Result (ℕ × ℕ) Cause
admits_statement before None name = Err causes.Writer
admits_statement before (Some writer) name =
    admits_index before writer (name_map.get before.script.names name)

abbrev pub with_statement : State → ℕ → Statement → State
with_statement before writer stm = record before {
  script = record before.script { writers = add_statement writer stm before.script.writers };
}

-- the message, and then the text, may be too long
abbrev pub takes_statement : State → ℕ → Statement → Result State Cause
takes_statement before writer stm =
    if nat_lt message_limit (length (first_message before.script.table before.script.settings stm))
    then Err causes.Long
    else if nat_lt printed_limit (length (eager_text before.script.table stm.index stm.args))
    then Err causes.Wide
    else Ok (with_statement before writer stm)

abbrev pub takes_arguments : State → ℕ × ℕ → Result Vals ℕ → Result State Cause
takes_arguments before p (Err inner) = Err (causes.Args inner)
takes_arguments before p (Ok args) =
    takes_statement before p.0 (record { index = p.1; args = args })

-- the arguments are looked at where writer and name are admitted
abbrev pub TakesStatement : State → List ℕ → Result (ℕ × ℕ) Cause → Result State Cause → Type 0
TakesStatement before text (Err cause) taken = taken ≡ Err cause
TakesStatement before text (Ok p) taken =
    (args : Result Vals ℕ) × ReadsArguments before.script.names before.script.table p.1 text args
    × (taken ≡ takes_arguments before p args)

-- ---- texts for terminals: `t WRITER TERM TEXT`

-- the terminal, and then the text, may be none
abbrev pub admits_terminal : State → ℕ → List ℕ → Option ℕ → Result (ℕ × ℕ) Cause
admits_terminal before writer text None = Err causes.Terminal
admits_terminal before writer text (Some terminal) =
    if not (is_sayable text) then Err causes.Words
    else if nat_lt (count_texts before.script.said) texts_limit then Ok (writer, terminal)
    else Err causes.Many

-- the writer and the terminal
abbrev pub admits_text : State → Option ℕ → List ℕ → List ℕ → Result (ℕ × ℕ) Cause
admits_text before None term text = Err causes.Writer
admits_text before (Some writer) term text =
    admits_terminal before writer text (terminal_named term)

-- behind the statements and the texts that the writer has by now
abbrev pub with_text : State → ℕ → ℕ → List ℕ → State
with_text before writer terminal text = record before {
  script = record before.script {
    said = with_saying before.script.said writer
        (saying (length (statements_by before.script writer)) terminal text);
  };
}

abbrev pub takes_text : State → List ℕ → Result (ℕ × ℕ) Cause → Result State Cause
takes_text before text (Err cause) = Err cause
takes_text before text (Ok p) = Ok (with_text before p.0 p.1 text)

-- ---- lines

-- what a writer does, by the form of its line
abbrev pub TakesAction : State → Form → Option ℕ → List ℕ → List ℕ → Result State Cause → Type 0
TakesAction before forms.Statement writer name args taken =
    TakesStatement (closed before) args (admits_statement (closed before) writer name) taken
TakesAction before forms.Say writer term text taken =
    taken ≡ takes_text (closed before) text (admits_text (closed before) writer term text)
TakesAction before form writer field more taken = taken ≡ Err causes.Line

abbrev pub Takes : State → Line → Result State Cause → Type 0
Takes before blank taken = taken ≡ Ok before
Takes before (head form words) taken = TakesSetting before form words taken
Takes before (entry name tag text) taken =
    TakesString before name tag text (admits_string before name) taken
Takes before (act form writer field more) taken = TakesAction before form writer field more taken
Takes before other taken = taken ≡ Err causes.Line

abbrev pub refusal_at : ℕ → Cause → Refusal
refusal_at number cause =
    record { line = number; cause = cause_number cause; inner = inner_number cause }

-- The script that some lines make of what stood before them, or the first that is refused. The first of these lines has this number.
abbrev pub ReadsLines : State → ℕ → List (List ℕ) → Result Script Refusal → Type 0
ReadsLines before number [] read = read ≡ Ok (closed before).script
ReadsLines before number (bytes ∷ more) read =
    ((line : Line) × (after : State) × Says bytes line × Takes before line (Ok after)
    × ReadsLines after (number + 1) more read)
    ⊎ ((line : Line) × (cause : Cause) × Says bytes line × Takes before line (Err cause)
    × (read ≡ Err (refusal_at number cause)))

-- What a text is read as. Its lines end with a newline; one carriage return before it is passed over, and the last line may lack its
-- newline. The first line has the number 1.
abbrev pub Reads : List ℕ → Result Script Refusal → Type 0
Reads text read = ReadsLines no_lines 1 (lines text) read
