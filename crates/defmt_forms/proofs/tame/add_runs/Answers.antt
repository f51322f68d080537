use Rattle.std.proofs.Common.{◌++◌, ◌-◌, arith, drop, length, length-drop, length-take, List, ℕ}
use Rattle.std.proofs.lemmas.List.{nil_from_length}
use Rattle.defmt_forms.proofs.Runs.{behind_front, no_more}
use Rattle.defmt_forms.specs.Terminal.{tame}
use Rattle.defmt_forms.proofs.tame.add_runs.Goals as goal

pub returns-then-rest-eq0 : goal.returns-then-rest-eq0
returns-then-rest-eq0 c =
    let rest : List ℕ = drop c.plain_run-run.result c.runs.rest.now in
    let whole : List ℕ = c.args.out.now.items ++ tame c.args.text.now in
    no_more rest whole c.extend_from_slice.new.self.items (nil_from_length rest (omega (arith, c.if-rest-eq0.true, length-take (length c.runs.rest.now - c.plain_run-run.result) rest, length-drop c.plain_run-run.result c.runs.rest.now)))
    (behind_front tame c.runs.rest.now whole c.runs.out.items c.extend_from_slice.new.self.items c.plain_run-run.result c.plain_run-run.ensures.plain
    c.in_ok-extend_from_slice.ensures.ok c.runs.invariant)
