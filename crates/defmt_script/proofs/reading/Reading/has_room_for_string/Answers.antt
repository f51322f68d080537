use Rattle.std.proofs.Common.{ap, arith, ◌≡◌, ◌∙◌}
use Rattle.std.proofs.lemmas.Bool.Decides.{nat_tests}
use Rattle.defmt_script.specs.Script.{count_strings}
use Rattle.defmt_script.specs.State.{State}
use Rattle.defmt_script.proofs.reading.Reading.has_room_for_string.Goals as goal

pub returns : goal.returns
returns c =
    let same : c.self.inside.strings ≡ count_strings c.args.self.now.script = c.self.invariant.strings_are ∙ ap (λ (v : State). count_strings v.script) c.self.view_is in
    grind (arith, nat_tests, same)
