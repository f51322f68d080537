use Rattle.defmt_dates.specs.Texts.{clock_of_micros}
use Rattle.defmt_dates.proofs.clocks.clock_of_micros.Goals as goal

pub returns : goal.returns
unfolding clock_of_micros
returns c = rw (c.clock-text.ensures.text, c.millionths.ensures, c.divided-seconds.ensures.quotient, c.divided-seconds.ensures.remainder) at c.put.ensures
