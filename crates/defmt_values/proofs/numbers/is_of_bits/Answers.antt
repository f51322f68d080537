use Rattle.defmt_values.proofs.Powers as powers
use Rattle.defmt_values.proofs.numbers.is_of_bits.Goals as goal

pub returns-else-bits-lt128 : goal.returns-else-bits-lt128
returns-else-bits-lt128 c = powers.many_bits c.args.n c.args.bits c.ranges.n.fits c.if-bits-lt128.false
