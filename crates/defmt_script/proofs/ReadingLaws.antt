-- A script that is read line by line.
use Rattle.std.proofs.Common.{◌≡◌, ◌+◌, inl, inr, ℕ, List, [], ◌∷◌, Option, Result, Ok, Err, refl, sym, ◌∙◌, ap, subst, arith, length}
use Rattle.std.specs.Prelude.{◌==◌, true}
use Rattle.std.specs.Str.Lines.{lines}
use Rattle.std.proofs.lemmas.Bool.Decides.{nat_tests}
use Rattle.defmt_grammar.specs.declared.language.Language.{Language}
use Rattle.defmt_intern.specs.Table.{Map}
use Rattle.defmt_intern.specs.declared.entry.Tag.{Tag}
use Rattle.defmt_lines.proofs.LineLaws.{one_line}
use Rattle.defmt_lines.proofs.SettingLaws.{one_setting}
use Rattle.defmt_lines.specs.Line.{Line, blank, head, entry, act, other, Says}
use Rattle.defmt_lines.specs.Settings.{Sets}
use Rattle.defmt_lines.specs.Verdict.{Judges}
use Rattle.defmt_lines.specs.declared.cause.Cause.{Cause}
use Rattle.defmt_lines.specs.declared.form.Form.{Form}
use Rattle.defmt_lines.specs.declared.form.Form.TheVariants as forms
use Rattle.defmt_lines.specs.declared.settings.Settings.{Settings}
use Rattle.defmt_script.specs.Answers.{Answers, Becomes, GivesOnly, TakesLine, fault_of}
use Rattle.defmt_script.specs.Reads.{Reads, ReadsLines, Takes, TakesAction, TakesSetting, TakesString, TakesStatement, admits_statement, admits_string, refusal_at, sets, takes_arguments, takes_string}
use Rattle.defmt_script.specs.Script.{Script, Refusal}
use Rattle.defmt_script.specs.State.{State, closed, no_lines}
use Rattle.defmt_script.specs.declared.fault.LineFault.{LineFault}
use Rattle.defmt_script.specs.declared.fault.LineFault.TheVariants as line_faults
use Rattle.defmt_script.specs.declared.fault.ScriptFault.{ScriptFault}
use Rattle.defmt_script.specs.declared.fault.ScriptFault.TheVariants as faults
use Rattle.defmt_spelling.specs.Names.{NameMap}
use Rattle.defmt_spelling.specs.Spelling.{ReadsArguments}
use Rattle.defmt_values.specs.Plain.{Vals}

abbrev Answer : Type 0
Answer = Result Script Refusal

-- What the lines behind the first `number` are read as is what the text is read as.
pub record IsReading (state : State) (number : ℕ) (rest text : List ℕ) : Type 0 where
  pub then : (read : Answer) → ReadsLines state (number + 1) (lines rest) read → Reads text read

pub begins : (state : State) (text : List ℕ) → state ≡ no_lines → IsReading state 0 text text
begins state text is = record { then = λ read reads. subst (λ (s : State). ReadsLines s 1 (lines text) read) is reads }

pub goes_on : (state : State) (number : ℕ) (rest text bytes after : List ℕ) → IsReading state number rest text → lines rest ≡ bytes ∷ lines after
    → (line : Line) (more : State) → Says bytes line → Takes state line (Ok more) → IsReading more (number + 1) after text
goes_on state number rest text bytes after reading next line more says takes = record {
  then = λ read reads. reading.then read (subst (λ (ls : List (List ℕ)). ReadsLines state (number + 1) ls read) (sym next) (inl (line, more, says, takes, reads)));
}

pub refuses : (state : State) (number : ℕ) (rest text bytes after : List ℕ) → IsReading state number rest text → lines rest ≡ bytes ∷ lines after
    → (line : Line) (cause : Cause) → Says bytes line → Takes state line (Err cause) → Reads text (Err (refusal_at (number + 1) cause))
refuses state number rest text bytes after reading next line cause says wrong =
    let read : Answer = Err (refusal_at (number + 1) cause) in
    reading.then read (subst (λ (ls : List (List ℕ)). ReadsLines state (number + 1) ls read) (sym next) (inr (line, cause, says, wrong, refl)))

-- the same as it is answered
pub refuses_by : (state new : State) (number n : ℕ) (rest text bytes after : List ℕ) → IsReading state number rest text → lines rest ≡ bytes ∷ lines after
    → (line : Line) (fault : LineFault) → Says bytes line → n ≡ number + 1 → TakesLine state line (Err fault) new → Answers text (Err (fault_of n fault))
refuses_by state new number n rest text bytes after reading next line (line_faults.Refused cause) says e wrong = rw e (refuses state number rest text bytes after reading next line cause says wrong)
refuses_by state new number n rest text bytes after reading next line line_faults.Memory says e wrong = tt

-- no bytes are no lines
pub ends : (state : State) (number : ℕ) (rest text : List ℕ) → IsReading state number rest text → (length rest == 0) ≡ true → (script : Script) → script ≡ (closed state).script
    → Reads text (Ok script)
ends state number [] text reading is script whole = reading.then (Ok script) (ap (λ (s : Script). let a : Answer = Ok s in a) whole)
ends state number (b ∷ rest) text reading is script whole = absurd (grind (arith, nat_tests))

-- what the settings become is what the line makes of them
pub set_becomes : (old : State) (form : Form) (words : List (List ℕ)) (set : Result Settings Cause) → Sets form words old.script.settings set
    → (result : Result (Unit {0}) LineFault) (new : State) → Becomes (sets old form set) result new → TakesLine old (head form words) result new
set_becomes old form words set given (Ok done) new is = (set, given, sym is)
set_becomes old form words set given (Err (line_faults.Refused cause)) new is = (set, given, sym is)
set_becomes old form words set given (Err line_faults.Memory) new is = tt

-- ---- one answer

module _ (texts : (language : Language) (tag : Tag) (text : List ℕ) (verdict other : Option ℕ) → Judges language tag text verdict → Judges language tag text other → verdict ≡ other)
    (arguments : (names : NameMap) (t : Map) (index : ℕ) (text : List ℕ) (a b : Result Vals ℕ) → ReadsArguments names t index text a → ReadsArguments names t index text b → a ≡ b) where
  one_string : (before : State) (name : List ℕ) (tag : Tag) (text : List ℕ) (admitted : Result (Unit {0}) Cause) (a b : Result State Cause)
      → TakesString before name tag text admitted a → TakesString before name tag text admitted b → a ≡ b
  one_string before name tag text (Err cause) a b p q = p ∙ sym q
  one_string before name tag text (Ok admitted) a b p q =
      p.2 ∙ ap (takes_string before name tag text) (texts before.script.table.language tag text p.0 q.0 p.1 q.1) ∙ sym q.2

  one_statement : (before : State) (text : List ℕ) (admitted : Result (ℕ × ℕ) Cause) (a b : Result State Cause)
      → TakesStatement before text admitted a → TakesStatement before text admitted b → a ≡ b
  one_statement before text (Err cause) a b p q = p ∙ sym q
  one_statement before text (Ok place) a b p q =
      p.2 ∙ ap (takes_arguments before place) (arguments before.script.names before.script.table place.1 text p.0 q.0 p.1 q.1) ∙ sym q.2

  one_action : (before : State) (form : Form) (writer : Option ℕ) (field more : List ℕ) (a b : Result State Cause)
      → TakesAction before form writer field more a → TakesAction before form writer field more b → a ≡ b
  one_action before forms.Statement writer name args a b p q = one_statement (closed before) args (admits_statement (closed before) writer name) a b p q
  one_action before forms.Say writer term text a b p q = p ∙ sym q
  one_action before form writer field more a b p q = p ∙ sym q

  one_set : (before : State) (form : Form) (words : List (List ℕ)) (a b : Result State Cause) → TakesSetting before form words a → TakesSetting before form words b → a ≡ b
  one_set before form words a b p q =
      let same : p.0 ≡ q.0 = one_setting form words before.script.settings p.0 q.0 p.1 q.1 in p.2 ∙ ap (sets before form) same ∙ sym q.2

  one_taken : (before : State) (line : Line) (a b : Result State Cause) → Takes before line a → Takes before line b → a ≡ b
  one_taken before blank a b p q = p ∙ sym q
  one_taken before (head form words) a b p q = one_set before form words a b p q
  one_taken before (entry name tag text) a b p q = one_string before name tag text (admits_string before name) a b p q
  one_taken before (act form writer field more) a b p q = one_action before form writer field more a b p q
  one_taken before other a b p q = p ∙ sym q

  -- two lines of the same bytes are one
  one_said : (before : State) (bytes : List ℕ) (line more : Line) (a b : Result State Cause) → Says bytes line → Says bytes more → Takes before line a → Takes before more b → a ≡ b
  one_said before bytes line more a b says too p q =
      one_taken before line a b p (subst (λ (l : Line). Takes before l b) (one_line bytes more line too says) q)

  one_of_lines : (ls : List (List ℕ)) (before : State) (number : ℕ) (read more : Answer) → ReadsLines before number ls read → ReadsLines before number ls more → read ≡ more
  one_of_lines [] before number read more p q = p ∙ sym q
  one_of_lines (bytes ∷ ls) before number read more (inl p) (inl q) =
      let taken : Ok p.1 ≡ Ok q.1 = one_said before bytes p.0 q.0 (Ok p.1) (Ok q.1) p.2 q.2 p.3 q.3 in
      let same : q.1 ≡ p.1 = cc taken in
      one_of_lines ls p.1 (number + 1) read more p.4 (subst (λ (s : State). ReadsLines s (number + 1) ls more) same q.4)
  one_of_lines (bytes ∷ ls) before number read more (inl p) (inr q) = absurd (cc (one_said before bytes p.0 q.0 (Ok p.1) (Err q.1) p.2 q.2 p.3 q.3))
  one_of_lines (bytes ∷ ls) before number read more (inr p) (inl q) = absurd (cc (one_said before bytes p.0 q.0 (Err p.1) (Ok q.1) p.2 q.2 p.3 q.3))
  one_of_lines (bytes ∷ ls) before number read more (inr p) (inr q) =
      let taken : Result State Cause = Err p.1 in
      let wrong : Result State Cause = Err q.1 in
      let both : taken ≡ wrong = one_said before bytes p.0 q.0 (Err p.1) (Err q.1) p.2 q.2 p.3 q.3 in
      let same : p.1 ≡ q.1 = cc both in
      p.4 ∙ ap (λ (cause : Cause). let r : Answer = Err (refusal_at number cause) in r) same ∙ sym q.4

  pub one_reading : (text : List ℕ) (read more : Answer) → Reads text read → Reads text more → read ≡ more
  one_reading text read more p q = one_of_lines (lines text) no_lines 1 read more p q

-- what is answered is what the text reads as
pub decided : ((text : List ℕ) (read more : Answer) → Reads text read → Reads text more → read ≡ more) → (text : List ℕ) (result : Result Script ScriptFault) → Answers text result
    → (read : Answer) → Reads text read → GivesOnly result read
decided one text (Ok script) answer read reads = one text read (Ok script) reads answer
decided one text (Err (faults.Refused line cause inner)) answer read reads = one text read (Err (record { line = line; cause = cause; inner = inner })) reads answer
decided one text (Err faults.Memory) answer read reads = tt
