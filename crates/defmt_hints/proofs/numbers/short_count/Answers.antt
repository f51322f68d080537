use Rattle.std.proofs.Common.{sym}
use Rattle.defmt_hints.proofs.Places.{one_digit, two_digits, three_digits, four_digits}
use Rattle.defmt_hints.proofs.numbers.short_count.Goals as goal

pub returns-then-number-lt10 : goal.returns-then-number-lt10
returns-then-number-lt10 c = sym (one_digit c.args.number c.if-number-lt10.true)

pub returns-then-number-lt100 : goal.returns-then-number-lt100
returns-then-number-lt100 c = sym (two_digits c.args.number c.if-number-lt10.false c.if-number-lt100.true)

pub returns-then-number-lt1000 : goal.returns-then-number-lt1000
returns-then-number-lt1000 c = sym (three_digits c.args.number c.if-number-lt100.false c.if-number-lt1000.true)

pub returns-else-number-lt1000 : goal.returns-else-number-lt1000
returns-else-number-lt1000 c = sym (four_digits c.args.number c.if-number-lt1000.false c.requires)
