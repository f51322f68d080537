use Rattle.defmt_values.proofs.Pushes.{get_is}
use Rattle.defmt_values.proofs.value.Args.get.Goals as goal

pub returns : goal.returns
returns c = get_is c.at.result c.as_slice.result.now c.args.self.now c.args.position c.at.ensures c.as_slice.ensures
