use Rattle.defmt_dates.proofs.TextLaws.{day_digits}
use Rattle.defmt_dates.proofs.times.day_bytes.Goals as goal

pub returns : goal.returns
returns c =
    rw (c.digit.ensures, c.digit-2.ensures, c.digit-3.ensures, c.digit-4.ensures, c.digit-5.ensures, c.digit-6.ensures, c.digit-7.ensures, c.digit-8.ensures)
    (day_digits c.args.date.year c.args.date.month c.args.date.day)
