use Rattle.defmt_shapes.proofs.OrderLaws.{same_head}
use Rattle.defmt_shapes.proofs.laws.one_head.Goals as goal

pub returns : goal.returns
returns c = same_head
