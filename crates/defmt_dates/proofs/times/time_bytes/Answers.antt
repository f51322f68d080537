use Rattle.defmt_dates.proofs.TextLaws.{time_digits}
use Rattle.defmt_dates.proofs.times.time_bytes.Goals as goal

pub returns : goal.returns
returns c = rw (c.digit.ensures, c.digit-2.ensures, c.digit-3.ensures, c.digit-4.ensures, c.digit-5.ensures, c.digit-6.ensures) (time_digits c.args.seconds)
