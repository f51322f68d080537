use Rattle.std.proofs.Common.{arith}
use Rattle.defmt_encode.proofs.Numbers.{product_fits}
use Rattle.defmt_encode.proofs.leaves.moved_up.Goals as goal

pub overflow_mul-result : goal.overflow_mul-result
overflow_mul-result c = let p = product_fits c.args.n c.args.first c.args.width c.requires.0 c.requires.1 in rw (c.in-Some.ensures.0, c.from.ensures) (omega (arith, p))
