use Rattle.std.proofs.Common.{arith}
use Rattle.defmt_eager.proofs.wide.bytes_of.Goals as goal

pub returns : goal.returns
returns c = λ few. omega (arith, few)
