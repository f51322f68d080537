-- Each text is read as a script, or one of its lines is refused first.
use Rattle.std.proofs.Common.{◌+◌, inl, inr, ℕ, List, [], ◌∷◌, Option, Result, Ok, Err, refl}
use Rattle.std.specs.Str.Lines.{lines}
use Rattle.defmt_grammar.specs.declared.language.Language.{Language}
use Rattle.defmt_intern.specs.Table.{Map}
use Rattle.defmt_intern.specs.declared.entry.Tag.{Tag}
use Rattle.defmt_lines.proofs.LineLaws.{line_found}
use Rattle.defmt_lines.proofs.SettingLaws.{set_found}
use Rattle.defmt_lines.specs.Line.{Line, blank, head, entry, act, other, Says, line_of}
use Rattle.defmt_lines.specs.Settings.{with_words}
use Rattle.defmt_lines.specs.Verdict.{Judges}
use Rattle.defmt_lines.specs.declared.cause.Cause.{Cause}
use Rattle.defmt_lines.specs.declared.cause.Cause.TheVariants as causes
use Rattle.defmt_lines.specs.declared.form.Form.{Form}
use Rattle.defmt_lines.specs.declared.form.Form.TheVariants as forms
use Rattle.defmt_script.specs.Reads.{Reads, ReadsLines, Takes, TakesAction, TakesSetting, TakesString, TakesStatement, admits_statement, admits_string, admits_text, refusal_at, sets, takes_arguments, takes_string, takes_text}
use Rattle.defmt_script.specs.Script.{Script, Refusal}
use Rattle.defmt_script.specs.State.{State, closed, no_lines}
use Rattle.defmt_spelling.specs.Names.{NameMap}
use Rattle.defmt_spelling.specs.Spelling.{ReadsArguments}
use Rattle.defmt_values.specs.Plain.{Vals}

module _ (texts : (language : Language) (tag : Tag) (text : List ℕ) → (verdict : Option ℕ) × Judges language tag text verdict)
    (arguments : (names : NameMap) (t : Map) (index : ℕ) (text : List ℕ) → (read : Result Vals ℕ) × ReadsArguments names t index text read) where
  abbrev Taken : Type 0
  Taken = Result State Cause

  some_string : (before : State) (name : List ℕ) (tag : Tag) (text : List ℕ) (admitted : Result (Unit {0}) Cause) → (taken : Taken) × TakesString before name tag text admitted taken
  some_string before name tag text (Err cause) = (Err cause, refl)
  some_string before name tag text (Ok admitted) = let v = texts before.script.table.language tag text in (takes_string before name tag text v.0, (v.0, v.1, refl))

  some_statement : (before : State) (text : List ℕ) (admitted : Result (ℕ × ℕ) Cause) → (taken : Taken) × TakesStatement before text admitted taken
  some_statement before text (Err cause) = (Err cause, refl)
  some_statement before text (Ok place) = let r = arguments before.script.names before.script.table place.1 text in (takes_arguments before place r.0, (r.0, r.1, refl))

  some_action : (before : State) (form : Form) (writer : Option ℕ) (field more : List ℕ) → (taken : Taken) × TakesAction before form writer field more taken
  some_action before forms.Statement writer name args = some_statement (closed before) args (admits_statement (closed before) writer name)
  some_action before forms.Say writer term text = (takes_text (closed before) text (admits_text (closed before) writer term text), refl)
  some_action before form writer field more = (Err causes.Line, refl)

  some_set : (before : State) (form : Form) (words : List (List ℕ)) → (taken : Taken) × TakesSetting before form words taken
  some_set before form words = (sets before form (with_words form words before.script.settings), (with_words form words before.script.settings, set_found form words before.script.settings, refl))

  some_taken : (before : State) (line : Line) → (taken : Taken) × Takes before line taken
  some_taken before blank = (Ok before, refl)
  some_taken before (head form words) = some_set before form words
  some_taken before (entry name tag text) = some_string before name tag text (admits_string before name)
  some_taken before (act form writer field more) = some_action before form writer field more
  some_taken before other = (Err causes.Line, refl)

  abbrev Read : State → ℕ → List (List ℕ) → Type 0
  Read before number ls = (read : Result Script Refusal) × ReadsLines before number ls read

  behind_line : (before : State) (number : ℕ) (bytes : List ℕ) (more : List (List ℕ)) (line : Line) → Says bytes line → (taken : Taken) × Takes before line taken → ((after : State) → Read after (number + 1) more) → Read before number (bytes ∷ more)
  behind_line before number bytes more line says (Ok after, takes) go = let m = go after in (m.0, inl (line, after, says, takes, m.1))
  behind_line before number bytes more line says (Err cause, takes) go = (Err (refusal_at number cause), inr (line, cause, says, takes, refl))

  some_of_lines : (ls : List (List ℕ)) (before : State) (number : ℕ) → Read before number ls
  some_of_lines [] before number = (Ok (closed before).script, refl)
  some_of_lines (bytes ∷ more) before number = behind_line before number bytes more (line_of bytes) (line_found bytes) (some_taken before (line_of bytes)) (λ after. some_of_lines more after (number + 1))

  pub some_reading : (text : List ℕ) → (read : Result Script Refusal) × Reads text read
  some_reading text = some_of_lines (lines text) no_lines 1
