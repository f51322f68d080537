-- Statement by statement, a generated text reads as a script.
use Rattle.std.proofs.Common.{◌≡◌, ◌≤◌, ◌<◌, ◌+◌, ◌%◌, ℕ, zero, suc, Bool, true, false, List, [], ◌∷◌, ◌++◌, Some, Result, Ok, Err, refl, sym, ap, subst, ◌∙◌, arith, length, length-append, inl}
use Rattle.std.specs.Prelude.{if◌then◌else◌, nat_lt, not}
use Rattle.std.specs.FinMap as name_map
use Rattle.std.proofs.lemmas.Bool.Decides.{nat_tests}
use Rattle.defmt_eager.specs.Line.{printed_limit}
use Rattle.defmt_eager.specs.Show.{eager_text}
use Rattle.defmt_encode.specs.Out.{message_limit}
use Rattle.defmt_generate.specs.Generated.{drawn, generated}
use Rattle.defmt_generate.proofs.CallParts.{Call}
use Rattle.defmt_generate.proofs.Calls.{called}
use Rattle.defmt_generate.proofs.Fields.{statement_said}
use Rattle.defmt_generate.proofs.Head.{head_read}
use Rattle.defmt_generate.proofs.States.{all_counted, all_names, all_settings, full_table, ready}
use Rattle.defmt_generate.proofs.Lines.{generated_lines, statement_printable}
use Rattle.defmt_generate.specs.Lines.{head_lines, statement_line, statement_lines}
use Rattle.defmt_intern.specs.Entries as map
use Rattle.defmt_intern.specs.Table.{Map}
use Rattle.defmt_lines.specs.Form.{in_order}
use Rattle.defmt_lines.specs.Line.{Line, Says, act}
use Rattle.defmt_lines.specs.declared.cause.Cause.{Cause}
use Rattle.defmt_lines.specs.declared.cause.Cause.TheVariants as causes
use Rattle.defmt_lines.specs.declared.form.Form.{Form}
use Rattle.defmt_lines.specs.declared.form.Form.TheVariants as forms
use Rattle.defmt_lines.specs.declared.settings.Settings.{Settings}
use Rattle.defmt_script.specs.Lawful.{first_message, statements_limit}
use Rattle.defmt_script.specs.Reads.{Reads, ReadsLines, Takes, TakesStatement, admits_index, admits_statement, is_message, takes_arguments, with_statement}
use Rattle.defmt_script.specs.Script.{Refusal, Script, add_statement, count_all, count_statements}
use Rattle.defmt_script.specs.State.{State, closed, no_lines, stamp_entry}
use Rattle.defmt_spelling.specs.Names.{NameMap}
use Rattle.defmt_spelling.specs.Spelling.{ReadsArguments}
use Rattle.defmt_values.specs.declared.value.Statement.{Statement}

abbrev Taken : Type 0
Taken = Result State Cause

abbrev Place : Type 0
Place = Result (ℕ × ℕ) Cause

-- so many statements are read
record Follows (count : ℕ) (s : State) : Type 0 where
  shut : (closed s).first ≡ forms.Statement
  table : (closed s).script.table ≡ full_table
  names : (closed s).script.names ≡ all_names
  settings : (closed s).script.settings ≡ all_settings
  all : count_all (closed s).script.writers ≡ count
  eight : length (closed s).script.writers ≡ 8

follows_ready : Follows 0 ready
follows_ready = record {
  shut = refl;
  table = ap (λ (n : ℕ). let t : Map = map.insert ready.script.table (n + 1) (stamp_entry (n + 1)) in t) all_counted;
  names = refl;
  settings = refl;
  all = refl;
  eight = refl;
}

-- ---- one statement

chosen : (b : Bool) (s t : State) → b ≡ false → (if b then s else t) ≡ t
chosen true s t e = absurd (cc e)
chosen false s t e = refl

stays_closed : (s : State) → s.first ≡ forms.Statement → closed s ≡ s
stays_closed s shut =
    let order : in_order s.first forms.Entry ≡ false = ap (λ (f : Form). in_order f forms.Entry) shut in
    chosen (in_order s.first forms.Entry) _ s order

added : (w : ℕ) (stm : Statement) (lists : List (List Statement)) → w < length lists
    → (count_all (add_statement w stm lists) ≡ count_all lists + 1) × (length (add_statement w stm lists) ≡ length lists)
added w stm [] lt = absurd (omega (arith, lt))
added zero stm (list ∷ more) lt = (omega (arith, length-append list (stm ∷ [])), refl)
added (suc w) stm (list ∷ more) lt = let rest = added w stm more (omega (arith, lt)) in (omega (arith, rest.0), omega (arith, rest.1))

follows_next : (count w : ℕ) (s : State) (stm : Statement) → w < 8 → Follows count s → Follows (count + 1) (with_statement (closed s) w stm)
follows_next count w s stm lt f =
    let after : State = with_statement (closed s) w stm in
    let same : closed after ≡ after = stays_closed after f.shut in
    let more = added w stm (closed s).script.writers (omega (arith, lt, f.eight)) in
    record {
      shut = ap (λ (t : State). t.first) same ∙ f.shut;
      table = ap (λ (t : State). t.script.table) same ∙ f.table;
      names = ap (λ (t : State). t.script.names) same ∙ f.names;
      settings = ap (λ (t : State). t.script.settings) same ∙ f.settings;
      all = ap (λ (t : State). count_all t.script.writers) same ∙ more.0 ∙ ap (λ (n : ℕ). n + 1) f.all;
      eight = ap (λ (t : State). length t.script.writers) same ∙ more.1 ∙ f.eight;
    }

admitted : (a b : Bool) (place : ℕ × ℕ) → a ≡ true → b ≡ true → (if not a then Err causes.Name else if b then Ok place else Err causes.Many) ≡ Ok place
admitted true true place e f = refl
admitted true false place e f = absurd (cc f)
admitted false b place e f = absurd (cc e)

accepted : (a b : Bool) (after : State) → a ≡ false → b ≡ false → (if a then Err causes.Long else if b then Err causes.Wide else Ok after) ≡ Ok after
accepted true b after e f = absurd (cc e)
accepted false true after e f = absurd (cc f)
accepted false false after e f = refl

below : (m n : ℕ) → m < n → nat_lt m n ≡ true
below m n lt = grind (arith, nat_tests)

not_below : (m n : ℕ) → n ≤ m → nat_lt m n ≡ false
not_below m n le = grind (arith, nat_tests)

module _ (i x turn w : ℕ) (s : State) (f : Follows i s) (few : i < 4096) (c : Call turn x) where
  abbrev made : Statement
  made = record { index = c.index; args = c.vs }

  is_admitted : admits_statement (closed s) (Some w) c.name ≡ Ok (w, c.index)
  is_admitted =
      ap (λ (m : NameMap). admits_index (closed s) w (name_map.get m c.name)) f.names
      ∙ ap (admits_index (closed s) w) c.named
      ∙ admitted (is_message (closed s).script.table c.index) (nat_lt (count_statements (closed s).script) statements_limit) (w, c.index)
      (ap (λ (t : Map). is_message t c.index) f.table ∙ c.logged) (below (count_statements (closed s).script) statements_limit (omega (arith, f.all, few)))

  arguments_read : ReadsArguments (closed s).script.names (closed s).script.table c.index c.args (Ok c.vs)
  arguments_read =
      subst (λ (t : Map). ReadsArguments (closed s).script.names t c.index c.args (Ok c.vs)) (sym f.table)
      (subst (λ (m : NameMap). ReadsArguments m full_table c.index c.args (Ok c.vs)) (sym f.names) c.reads)

  is_short : length (first_message (closed s).script.table (closed s).script.settings made) ≤ message_limit
  is_short =
      subst (λ (t : Map). length (first_message t (closed s).script.settings made) ≤ message_limit) (sym f.table)
      (subst (λ (u : Settings). length (first_message full_table u made) ≤ message_limit) (sym f.settings) c.short)

  is_narrow : length (eager_text (closed s).script.table c.index c.vs) ≤ printed_limit
  is_narrow = subst (λ (t : Map). length (eager_text t c.index c.vs) ≤ printed_limit) (sym f.table) c.narrow

  abbrev following : State
  following = with_statement (closed s) w made

  is_taken : Takes s (act forms.Statement (Some w) c.name c.args) (Ok following)
  is_taken =
      let taken : Taken = Ok following in
      let here : takes_arguments (closed s) (w, c.index) (Ok c.vs) ≡ taken =
      accepted (nat_lt message_limit (length (first_message (closed s).script.table (closed s).script.settings made)))
      (nat_lt printed_limit (length (eager_text (closed s).script.table c.index c.vs))) following
      (not_below message_limit (length (first_message (closed s).script.table (closed s).script.settings made)) is_short)
      (not_below printed_limit (length (eager_text (closed s).script.table c.index c.vs)) is_narrow) in
      subst (λ (p : Place). TakesStatement (closed s) c.args p taken) (sym is_admitted) (Ok c.vs, arguments_read, sym here)

-- ---- all statements

read_statements : (count i : ℕ) (s : State) (number : ℕ) → Follows i s → i + count ≤ 4096
    → (script : Script) × ReadsLines s number (statement_lines i count) (Ok script) × (count_all script.writers ≡ i + count)
read_statements zero i s number f le = ((closed s).script, refl, omega (arith, f.all))
read_statements (suc count) i s number f le =
    let c : Call (i % 5) (drawn i) = called (i % 5) (drawn i) (omega arith) (omega arith) in
    let few : i < 4096 = omega (arith, le) in
    let stm : Statement = record { index = c.index; args = c.vs } in
    let after : State = with_statement (closed s) (i % 4) stm in
    let more = read_statements count (i + 1) after (number + 1) (follows_next i (i % 4) s stm (omega arith) f) (omega (arith, le)) in
    let line : Line = act forms.Statement (Some (i % 4)) c.name c.args in
    let says : Says (statement_line i) line = statement_said i c.name c.args (statement_printable i) c.fields in
    let takes : Takes s line (Ok after) = is_taken i (drawn i) (i % 5) (i % 4) s f few c in
    (more.0, inl (line, after, says, takes, more.1), omega (arith, more.2))

pub generated_reads : (count : ℕ) → count ≤ 4096 → (script : Script) × Reads (generated count) (Ok script) × (count_all script.writers ≡ count)
generated_reads count most =
    let r = read_statements count 0 ready 10 follows_ready (omega (arith, most)) in
    let read : Result Script Refusal = Ok r.0 in
    let reads : ReadsLines no_lines 1 (head_lines ++ statement_lines 0 count) read = head_read (statement_lines 0 count) read r.1 in
    (r.0, subst (λ (ls : List (List ℕ)). ReadsLines no_lines 1 ls read) (sym (generated_lines count)) reads, omega (arith, r.2))
