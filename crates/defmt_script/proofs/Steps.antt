-- What is taken of a line, and what each line changes.
use Rattle.std.proofs.Common.{◌≡◌, ◌≤◌, ◌<◌, ◌+◌, ℕ, Bool, true, false, cond, not, List, [], ◌∷◌, Option, Some, None, Result, Ok, Err, refl, subst, arith, length}
use Rattle.std.specs.Prelude.{is_some, nat_lt, unwrap_or}
use Rattle.std.specs.FinMap as map
use Rattle.std.specs.Str.{IsUtf8}
use Rattle.std.proofs.lemmas.Bool.Decides.{nat_tests}
use Rattle.defmt_eager.specs.Line.{printed_limit}
use Rattle.defmt_eager.specs.Show.{eager_text}
use Rattle.defmt_encode.specs.Out.{message_limit}
use Rattle.defmt_intern.specs.declared.entry.Tag.{Tag}
use Rattle.defmt_lines.specs.Form.{StringsAreOver, StringsMayCome, in_order, next}
use Rattle.defmt_lines.specs.Line.{is_string_tag}
use Rattle.defmt_shapes.specs.Shape.{is_name}
use Rattle.defmt_lines.specs.Settings.{Sets}
use Rattle.defmt_lines.specs.declared.cause.Cause.{Cause}
use Rattle.defmt_lines.specs.declared.cause.Cause.TheVariants as causes
use Rattle.defmt_lines.specs.declared.form.Form.{Form}
use Rattle.defmt_lines.specs.declared.form.Form.TheVariants as forms
use Rattle.defmt_lines.specs.declared.settings.Settings.{Settings}
use Rattle.defmt_script.specs.Lawful.{first_message, statements_limit}
use Rattle.defmt_script.specs.Reads.{admits_index, admits_statement, admits_string, admits_terminal, admits_text, is_message, with_statement, with_string, with_text}
use Rattle.defmt_script.specs.Script.{Script, count_statements, count_strings, statements_by}
use Rattle.defmt_script.specs.State.{State, closed, strings_limit, table_behind}
use Rattle.defmt_values.specs.Fits.{Fits}
use Rattle.defmt_values.specs.declared.value.Statement.{Statement}
use Rattle.rtt_terminal.proofs.SayableLaws.{sayable_found}
use Rattle.rtt_terminal.proofs.Taken.{named_small}
use Rattle.rtt_terminal.specs.Reading.{terminal_named}
use Rattle.rtt_terminal.specs.Sayable.{is_sayable}
use Rattle.rtt_terminal.specs.Speech.{CanBeSaid, count_texts, saying, texts_limit}

-- ---- what is taken of a line

abbrev pub Answer : Type 0
Answer = Result State Cause

pub if_not : (b : Bool) (cause : Cause) (x : Answer) (after : State) → Ok after ≡ cond b (Err cause) x → (b ≡ false) × (Ok after ≡ x)
if_not true cause x after is = absurd (cc is)
if_not false cause x after is = (refl, is)

pub if_so : (b : Bool) (cause : Cause) (x : Answer) (after : State) → Ok after ≡ cond b x (Err cause) → (b ≡ true) × (Ok after ≡ x)
if_so true cause x after is = (refl, is)
if_so false cause x after is = absurd (cc is)

admits_by : (b : Bool) (x : Result (Unit {0}) Cause) (done : Unit {0}) → cond (not b) (Err causes.Line) x ≡ Ok done → b ≡ true
admits_by true x done is = refl
admits_by false x done is = absurd (cc is)

-- a string is admitted where strings are in order
pub string_may : (before : State) (name : List ℕ) (done : Unit {0}) → admits_string before name ≡ Ok done → StringsMayCome before.first
string_may before name done is =
    let more : Result (Unit {0}) Cause = cond (not (is_name name)) (Err causes.Name) (cond (is_some (map.get before.script.names name)) (Err causes.Double) (Ok tt)) in
    admits_by (in_order before.first forms.Entry) more done is

abbrev Admission : Type 0
Admission = Result (Unit {0}) Cause

abbrev kept_out : Cause → Admission
kept_out cause = Err cause

abbrev let_in : Admission
let_in = Ok tt

new_by : (a b : Bool) (o : Option ℕ) (done : Unit {0})
    → cond (not a) (kept_out causes.Line) (cond (not b) (kept_out causes.Name) (cond (is_some o) (kept_out causes.Double) let_in)) ≡ Ok done → o ≡ None
new_by true true None done is = refl
new_by true true (Some index) done is = absurd (cc is)
new_by true false o done is = absurd (cc is)
new_by false b o done is = absurd (cc is)

-- and where its name is new
pub string_new : (before : State) (name : List ℕ) (done : Unit {0}) → admits_string before name ≡ Ok done → map.get before.script.names name ≡ None
string_new before name done is = new_by (in_order before.first forms.Entry) (is_name name) (map.get before.script.names name) done is

-- ---- what each line changes

abbrev pub set_to : State → Form → Settings → State
set_to before form s = record before { first = next form; script = record before.script { settings = s; table = table_behind form s.language before.script.table } }

-- a string that is taken, of a line of so many bytes
pub record IsAdded (s : State) (name : List ℕ) (tag : Tag) (text : List ℕ) (bytes : ℕ) : Type 0 where
  pub may : StringsMayCome s.first
  pub new : map.get s.script.names name ≡ None
  pub room : count_strings s.script < strings_limit
  pub within : length text ≤ bytes
  pub short : length text ≤ 4096
  pub string : is_string_tag tag ≡ true

-- a statement that is taken
pub record IsTaken (s : State) (writer : ℕ) (stm : Statement) : Type 0 where
  pub over : StringsAreOver s.first
  pub eight : writer < 8
  pub room : count_statements s.script < statements_limit
  pub message : is_message s.script.table stm.index ≡ true
  pub fits : Fits s.script.table stm.index stm.args
  pub short : nat_lt message_limit (length (first_message s.script.table s.script.settings stm)) ≡ false
  pub narrow : nat_lt printed_limit (length (eager_text s.script.table stm.index stm.args)) ≡ false

-- a text that is taken
pub record IsSaid (s : State) (writer terminal : ℕ) (text : List ℕ) : Type 0 where
  pub eight : writer < 8
  pub can : CanBeSaid (saying (length (statements_by s.script writer)) terminal text)
  pub room : count_texts s.script.said < texts_limit

-- It is kept by what lines change. Beside the state stands a number of bytes that were read.
pub record Keeps (P : State → ℕ → Type 0) : Type 0 where
  pub more : (s : State) (b n : ℕ) → P s b → P s (b + n)
  pub settings : (s : State) (form : Form) (words : List (List ℕ)) (t : Settings) (b : ℕ) → in_order s.first form ≡ true → Sets form words s.script.settings (Ok t) → P s b → P (set_to s form t) b
  pub string : (s : State) (name : List ℕ) (tag : Tag) (text : List ℕ) (b n : ℕ) → IsAdded s name tag text n → P s b → P (with_string s name tag text) (b + n)
  pub closes : (s : State) (b : ℕ) → P s b → P (closed s) b
  pub statement : (s : State) (writer : ℕ) (stm : Statement) (b : ℕ) → IsTaken s writer stm → P s b → P (with_statement s writer stm) b
  pub text : (s : State) (writer terminal : ℕ) (text : List ℕ) (b : ℕ) → IsSaid s writer terminal text → P s b → P (with_text s writer terminal text) b

-- the writer and the index of a statement
pub record IsAdmitted (s : State) (p : ℕ × ℕ) : Type 0 where
  pub eight : p.0 < 8
  pub message : is_message s.script.table p.1 ≡ true
  pub room : count_statements s.script < statements_limit

pub below : (n limit : ℕ) → nat_lt n limit ≡ true → n < limit
below n limit is = grind (arith, nat_tests)

admitted_by : (s : State) (writer index : ℕ) (m r : Bool) (p : ℕ × ℕ) → is_message s.script.table index ≡ m → nat_lt (count_statements s.script) statements_limit ≡ r
    → cond (not m) (Err causes.Name) (cond r (Ok (writer, index)) (Err causes.Many)) ≡ Ok p → writer < 8 → IsAdmitted s p
admitted_by s writer index true true p message room is small =
    let same : (writer, index) ≡ p = cc is in
    subst (IsAdmitted s) same (record { eight = small; message = message; room = below (count_statements s.script) statements_limit room })
admitted_by s writer index true false p message room is small = absurd (cc is)
admitted_by s writer index false r p message room is small = absurd (cc is)

admitted_index : (s : State) (writer : ℕ) (o : Option ℕ) (p : ℕ × ℕ) → admits_index s writer o ≡ Ok p → writer < 8 → IsAdmitted s p
admitted_index s writer None p is small = absurd (cc is)
admitted_index s writer (Some index) p is small = admitted_by s writer index (is_message s.script.table index) (nat_lt (count_statements s.script) statements_limit) p refl refl is small

pub admitted : (s : State) (writer : Option ℕ) (name : List ℕ) (p : ℕ × ℕ) → admits_statement s writer name ≡ Ok p → unwrap_or writer 0 < 8 → IsAdmitted s p
admitted s None name p is small = absurd (cc is)
admitted s (Some writer) name p is small = admitted_index s writer (map.get s.script.names name) p is small

-- the writer and the terminal of a text
said_by_tests : (s : State) (writer terminal : ℕ) (text : List ℕ) (b r : Bool) (p : ℕ × ℕ) → is_sayable text ≡ b → nat_lt (count_texts s.script.said) texts_limit ≡ r
    → cond (not b) (Err causes.Words) (cond r (Ok (writer, terminal)) (Err causes.Many)) ≡ Ok p → writer < 8 → terminal < 16 → IsUtf8 text → IsSaid s p.0 p.1 text
said_by_tests s writer terminal text true true p sayable room is small one utf8 =
    let same : (writer, terminal) ≡ p = cc is in
    subst (λ (q : ℕ × ℕ). IsSaid s q.0 q.1 text) same (record {
      eight = small;
      can = record { one = one; utf8 = utf8; sayable = sayable_found text sayable };
      room = below (count_texts s.script.said) texts_limit room;
    })
said_by_tests s writer terminal text true false p sayable room is small one utf8 = absurd (cc is)
said_by_tests s writer terminal text false r p sayable room is small one utf8 = absurd (cc is)

said_on : (s : State) (writer : ℕ) (term text : List ℕ) (o : Option ℕ) (p : ℕ × ℕ) → o ≡ terminal_named term → admits_terminal s writer text o ≡ Ok p → writer < 8 → IsUtf8 text → IsSaid s p.0 p.1 text
said_on s writer term text None p named is small utf8 = absurd (cc is)
said_on s writer term text (Some terminal) p named is small utf8 =
    said_by_tests s writer terminal text (is_sayable text) (nat_lt (count_texts s.script.said) texts_limit) p refl refl is small (named_small term (Some terminal) named) utf8

pub said : (s : State) (writer : Option ℕ) (term text : List ℕ) (p : ℕ × ℕ) → admits_text s writer term text ≡ Ok p → unwrap_or writer 0 < 8 → IsUtf8 text → IsSaid s p.0 p.1 text
said s None term text p is small utf8 = absurd (cc is)
said s (Some writer) term text p is small utf8 = said_on s writer term text (terminal_named term) p refl is small utf8

-- the bytes of all lines
abbrev pub total : List (List ℕ) → ℕ
total [] = 0
total (line ∷ more) = length line + total more

-- the script at the end
pub record Ends (P : State → ℕ → Type 0) (script : Script) (bytes : ℕ) : Type 0 where
  pub last : State
  pub holds : P last bytes
  pub over : StringsAreOver last.first
  pub script_is : script ≡ last.script
