use Rattle.std.proofs.Common.{◌∙◌}
use Rattle.defmt_blocks.proofs.Telling.{look_told}
use Rattle.defmt_blocks.proofs.side.Side.hear.Goals as goal

pub returns-in-Ok-clause-kin : goal.returns-in-Ok-clause-kin
returns-in-Ok-clause-kin c look t kin still =
    let told = c.in-Ok.ensures.told in
    let was = kin c.if-self.false in
    (look_told told ∙ was.0, told.tells_is ∙ was.1)

pub returns-else-is_between-clause-kin : goal.returns-else-is_between-clause-kin
returns-else-is_between-clause-kin c look t kin still =
    let told = c.in-Ok.ensures.told in
    let was = kin c.if-self.false in
    (look_told told ∙ was.0, told.tells_is ∙ was.1)
