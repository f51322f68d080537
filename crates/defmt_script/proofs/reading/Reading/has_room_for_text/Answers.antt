use Rattle.std.proofs.Common.{ap, arith, ◌≡◌, ◌∙◌}
use Rattle.std.proofs.lemmas.Bool.Decides.{nat_tests}
use Rattle.defmt_script.specs.State.{State}
use Rattle.rtt_terminal.specs.Speech.{count_texts}
use Rattle.defmt_script.proofs.reading.Reading.has_room_for_text.Goals as goal

pub returns : goal.returns
returns c =
    let same : c.len.result ≡ count_texts c.args.self.now.script.said = c.len.ensures ∙ ap (λ (v : State). count_texts v.script.said) c.self.view_is in
    grind (arith, nat_tests, same)
