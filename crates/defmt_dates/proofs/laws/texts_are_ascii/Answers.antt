use Rattle.defmt_dates.proofs.AsciiLaws.{seconds_ascii, millis_ascii, clock_seconds_ascii, clock_millis_ascii, clock_micros_ascii}
use Rattle.defmt_dates.proofs.laws.texts_are_ascii.Goals as goal

pub returns-clause-dates : goal.returns-clause-dates
returns-clause-dates c = λ n h. (seconds_ascii n h, millis_ascii n h)

pub returns-clause-clocks : goal.returns-clause-clocks
returns-clause-clocks c = λ n h. (clock_seconds_ascii n h, clock_millis_ascii n h, clock_micros_ascii n h)
