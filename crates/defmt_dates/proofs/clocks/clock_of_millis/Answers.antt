use Rattle.defmt_dates.specs.Texts.{clock_of_millis}
use Rattle.defmt_dates.proofs.clocks.clock_of_millis.Goals as goal

pub returns : goal.returns
unfolding clock_of_millis
returns c = rw (c.clock-text.ensures.text, c.thousandths.ensures, c.divided-seconds.ensures.quotient, c.divided-seconds.ensures.remainder) at c.put.ensures
