use Rattle.std.proofs.Common.{◌∙◌}
use Rattle.defmt_script.proofs.StepLaws.{in_turn, step_is}
use Rattle.defmt_script.proofs.script.Script.step.Goals as goal

pub step_at-requires : goal.step_at-requires
step_at-requires c =
    in_turn c.args.self.now c.args.writer c.count.result c.speech.result.now c.sayings.result.now c.lawful.ensures c.count.ensures c.speech.ensures c.sayings.ensures

pub returns : goal.returns
returns c =
    c.step_at.ensures
    ∙ step_is c.args.self.now c.args.writer c.args.number c.count.result c.speech.result.now c.sayings.result.now c.count.ensures c.speech.ensures c.sayings.ensures
