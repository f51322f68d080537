use Rattle.std.proofs.Common.{ap, arith, ◌≡◌, ◌∙◌}
use Rattle.std.proofs.lemmas.Bool.Decides.{nat_tests}
use Rattle.defmt_script.specs.Script.{count_statements}
use Rattle.defmt_script.specs.State.{State}
use Rattle.defmt_script.proofs.reading.Reading.has_room_for_statement.Goals as goal

pub returns : goal.returns
returns c =
    let same : c.self.inside.statements ≡ count_statements c.args.self.now.script = c.self.invariant.statements_are ∙ ap (λ (v : State). count_statements v.script) c.self.view_is in
    grind (arith, nat_tests, same)
