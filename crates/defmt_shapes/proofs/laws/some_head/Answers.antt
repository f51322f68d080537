use Rattle.defmt_shapes.proofs.SomeLaws as some
use Rattle.defmt_shapes.proofs.laws.some_head.Goals as goal

pub returns : goal.returns
returns c = some.some_head
