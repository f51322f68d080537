use Rattle.defmt_values.proofs.Bits as bits
use Rattle.defmt_values.proofs.numbers.without_low.Goals as goal

pub returns-else-bits-lt128 : goal.returns-else-bits-lt128
returns-else-bits-lt128 c = bits.none_above c.args.n c.args.bits c.ranges.n.fits c.if-bits-lt128.false
