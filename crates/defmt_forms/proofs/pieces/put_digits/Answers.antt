use Rattle.std.proofs.Common.{arith}
use Rattle.std.proofs.lemmas.Fmt.{decimal_digit}
use Rattle.defmt_forms.proofs.Templates.{two_digits}
use Rattle.defmt_forms.proofs.pieces.put_digits.Goals as goal

pub returns-then-number-lt10-clause-placed : goal.returns-then-number-lt10-clause-placed
returns-then-number-lt10-clause-placed c = rw (decimal_digit c.args.number c.if-number-lt10.true) c.put_bytes.ensures.placed

pub returns-else-number-lt10-clause-placed : goal.returns-else-number-lt10-clause-placed
returns-else-number-lt10-clause-placed c =
    rw (two_digits c.args.number (omega (arith, c.if-number-lt10.false)) (omega (arith, c.requires.0))) c.put_bytes-else-number-lt10.ensures.placed
