use Rattle.std.proofs.Common.{◌≡◌, ◌≢◌, ◌-◌, None, length, length-drop, take, drop, get_or, sym, ◌∙◌, arith}
use Rattle.std.proofs.lemmas.List.{take_all}
use Rattle.defmt_hints.proofs.Escaping.{some_escape}
use Rattle.defmt_hints.proofs.Runs.{runs_bare, run_full, escape_full, runs_escaped, runs_end}
use Rattle.defmt_hints.specs.Quotings.{escape_in}
use Rattle.defmt_hints.proofs.quoted.put_escaped.Goals as goal
use Rattle.defmt_hints.proofs.quoted.put_escaped.Goals.{then-not-is_bare+in_ok-run+in_ok-end, else-not-is_bare}

pub returns-in_err-run : goal.returns-in_err-run
returns-in_err-run c = rw c.from_residual.ensures (run_full c.loop-i.invariant c.loop-i-test.true c.in_err-run.ensures)

pub returns-in_err-end : goal.returns-in_err-end
returns-in_err-end c =
    let escapes : escape_in c.args.quoting (get_or c.args.text.now c.loop-i.i 0) ≢ None = some_escape _ (sym c.is_bare.ensures ∙ c.if-not-is_bare.true) in
    rw c.from_residual-in_err-end.ensures (escape_full c.loop-i.invariant c.loop-i-test.true c.in_ok-run.ensures (c.in_err-end.ensures c.args.quoting escapes))

pub loop-i-preserved : goal.loop-i-preserved
loop-i-preserved c = elim c.if-not-is_bare.branch [
  | then-not-is_bare+in_ok-run+in_ok-end w ↦
      let escapes : escape_in c.args.quoting (get_or c.args.text.now c.loop-i.i 0) ≢ None = some_escape _ (sym c.is_bare.ensures ∙ w.if-not-is_bare.true) in
      rw (w.out-is, w.end-is, w.start-is) (runs_escaped c.loop-i.invariant c.loop-i-test.true w.in_ok-run.ensures (w.in_ok-end.ensures c.args.quoting escapes))
  | else-not-is_bare w ↦ rw (w.out-is, w.end-is, w.start-is) (runs_bare c.loop-i.invariant (sym c.is_bare.ensures ∙ w.if-not-is_bare.false))
]

pub returns : goal.returns
returns c =
    let all : take (length c.args.text.now - c.loop-i.start) (drop c.loop-i.start c.args.text.now) ≡ drop c.loop-i.start c.args.text.now = take_all (length c.args.text.now - c.loop-i.start) (drop c.loop-i.start c.args.text.now) (omega (arith, length-drop c.loop-i.start c.args.text.now)) in
    runs_end c.put_text-2.result c.put_text-2.new.out c.loop-i.invariant (omega arith) (omega arith) (rw all at c.put_text-2.ensures)
