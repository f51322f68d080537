use Rattle.defmt_dates.specs.Texts.{date_of_millis}
use Rattle.defmt_dates.proofs.times.date_of_millis.Goals as goal

pub returns : goal.returns
unfolding date_of_millis
returns c = rw (c.thousandths.ensures, c.divided-seconds.ensures.quotient, c.divided-seconds.ensures.remainder) at c.date_time.ensures
