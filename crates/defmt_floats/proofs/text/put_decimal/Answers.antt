use Rattle.std.proofs.Common.{arith}
use Rattle.std.proofs.lemmas.Fmt.{decimal_nonempty}
use Rattle.defmt_floats.proofs.text.put_decimal.Goals as goal

pub put_laid_out-requires-clause-some : goal.put_laid_out-requires-clause-some
put_laid_out-requires-clause-some g c = rw c.format.ensures.text (decimal_nonempty c.args.number (omega arith), c.requires.sizes)
