use Rattle.defmt_values.proofs.Powers as powers
use Rattle.defmt_values.proofs.numbers.is_multiple.Goals as goal

pub returns-in-None : goal.returns-in-None
returns-in-None c = powers.is_multiple c.args.n c.args.bytes c.ranges.n.fits c.in-None.ensures
