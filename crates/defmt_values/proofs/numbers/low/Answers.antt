use Rattle.defmt_values.proofs.Bits as bits
use Rattle.defmt_values.proofs.numbers.low.Goals as goal

pub returns-else-bits-lt128 : goal.returns-else-bits-lt128
returns-else-bits-lt128 c = bits.all_below c.args.n c.args.bits c.ranges.n.fits c.if-bits-lt128.false
