use Rattle.std.proofs.Common.{arith}
use Rattle.std.proofs.lemmas.Fmt.{decimal_digit}
use Rattle.defmt_forms.proofs.Templates.{two_digits}
use Rattle.defmt_forms.proofs.template.put_number.Goals as goal

pub returns-then-number-lt10-clause-items : goal.returns-then-number-lt10-clause-items
returns-then-number-lt10-clause-items c = rw (decimal_digit c.args.number c.if-number-lt10.true) c.push_reserved.ensures.items

pub returns-then-number-lt100-clause-items : goal.returns-then-number-lt100-clause-items
returns-then-number-lt100-clause-items c =
    rw (two_digits c.args.number (omega (arith, c.if-number-lt10.false)) c.if-number-lt100.true) c.extend_reserved.ensures.items
