use Rattle.std.proofs.Common.{◌≡◌, ◌∙◌, ℕ, List, Option, Result, Ok, Err, ap, refl, subst, sym}
use Rattle.defmt_lines.specs.Form.{StringsAreOver}
use Rattle.defmt_lines.specs.Line.{act}
use Rattle.defmt_lines.specs.declared.cause.Cause.{Cause}
use Rattle.defmt_lines.specs.declared.cause.Cause.TheVariants.{Args}
use Rattle.defmt_lines.specs.declared.form.Form.TheVariants.{Statement as StatementForm}
use Rattle.defmt_script.proofs.StringSteadiness.{over_closed}
use Rattle.defmt_script.specs.Answers.{Becomes, TakesLine}
use Rattle.defmt_script.specs.Reads.{TakesStatement, admits_statement, takes_arguments}
use Rattle.defmt_script.specs.State.{State, closed}
use Rattle.defmt_script.specs.declared.fault.LineFault.{LineFault}
use Rattle.defmt_script.specs.declared.fault.LineFault.TheVariants.{Memory, Refused}
use Rattle.defmt_spelling.specs.Spelling.{ReadsArguments}
use Rattle.defmt_values.specs.Plain.{Vals}
use Rattle.defmt_script.proofs.reading.Reading.take_statement.Goals as goal

pub put_statement-requires-clause-closed : goal.put_statement-requires-clause-closed
put_statement-requires-clause-closed c = subst (λ (v : State). StringsAreOver v.first) (sym c.in_ok-close.ensures) (over_closed c.args.self.now)

abbrev admitted_as : ℕ × ℕ → Result (ℕ × ℕ) Cause
admitted_as p = Ok p

abbrev read_as : Vals → Result Vals ℕ
read_as vs = Ok vs

-- what becomes of the arguments is what becomes of the line
taken_by : (s : State) (text : List ℕ) (p : ℕ × ℕ) (r : Result (ℕ × ℕ) Cause) (read : Result Vals ℕ) (taken : Result State Cause) → admitted_as p ≡ r
    → ReadsArguments s.script.names s.script.table p.1 text read → taken ≡ takes_arguments s p read → TakesStatement s text r taken
taken_by s text p r read taken is reads e = rw (← is) (read, reads, e)

taken_line : (old : State) (writer : Option ℕ) (name text : List ℕ) (p : ℕ × ℕ) (vs : Vals) (r : Result (Unit {0}) LineFault) (new : State) → admitted_as p ≡ admits_statement (closed old) writer name
    → ReadsArguments (closed old).script.names (closed old).script.table p.1 text (read_as vs) → Becomes (takes_arguments (closed old) p (read_as vs)) r new
    → TakesLine old (act StatementForm writer name text) r new
taken_line old writer name text p vs (Ok done) new is reads e = taken_by (closed old) text p _ (Ok vs) (Ok new) is reads (sym e)
taken_line old writer name text p vs (Err (Refused cause)) new is reads e = taken_by (closed old) text p _ (Ok vs) (Err cause) is reads (sym e)
taken_line old writer name text p vs (Err Memory) new is reads e = tt

pub returns-in-Ok-read_args : goal.returns-in-Ok-read_args
returns-in-Ok-read_args c =
    let same = c.in_ok-close.ensures in
    let p : ℕ × ℕ = c.in-Ok.admitted in
    let is = c.in-Ok.ensures.value ∙ ap (λ (v : State). admits_statement v c.args.writer c.args.name.now) same in
    let reads = subst (λ (v : State). ReadsArguments v.script.names v.script.table p.1 c.args.args.now (read_as c.in-Ok-read_args.args)) (c.self.view_is ∙ same) c.in-Ok-read_args.ensures.answer in
    let put = subst (λ (v : State). Becomes (takes_arguments v p (read_as c.in-Ok-read_args.args)) c.put_statement.result c.put_statement.new.self) same c.put_statement.ensures in
    taken_line c.args.self.now c.args.writer c.args.name.now c.args.args.now p c.in-Ok-read_args.args c.put_statement.result c.put_statement.new.self is reads put

pub returns-in-Err-Refused : goal.returns-in-Err-Refused
returns-in-Err-Refused c =
    let same = c.in_ok-close.ensures in
    let p : ℕ × ℕ = c.in-Ok.admitted in
    let is = c.in-Ok.ensures.value ∙ ap (λ (v : State). admits_statement v c.args.writer c.args.name.now) same in
    let none : Result Vals ℕ = Err c.in-Err-Refused.cause in
    let reads = subst (λ (v : State). ReadsArguments v.script.names v.script.table p.1 c.args.args.now none) (c.self.view_is ∙ same) (rw c.in-Err-Refused.field-0-is at c.in-Err-Refused.ensures.answer) in
    taken_by (closed c.args.self.now) c.args.args.now p _ none (Err (Args c.in-Err-Refused.cause)) is reads refl
