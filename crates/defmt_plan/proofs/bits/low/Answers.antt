use Rattle.defmt_plan.proofs.Fields.{all_below}
use Rattle.defmt_plan.proofs.bits.low.Goals as goal

pub returns-else-count-lt64 : goal.returns-else-count-lt64
returns-else-count-lt64 c = all_below c.args.number c.args.count c.ranges.number.fits c.if-count-lt64.false
