use Rattle.defmt_values.proofs.Powers.{few_fit, some}
use Rattle.defmt_values.proofs.numbers.power.Goals as goal

pub pow-requires : goal.pow-requires
pow-requires c = few_fit c.args.bytes c.if-bytes-lt16.true

pub returns-then-bytes-lt16 : goal.returns-then-bytes-lt16
returns-then-bytes-lt16 c = (c.pow.ensures, rw c.pow.ensures (some c.args.bytes))
