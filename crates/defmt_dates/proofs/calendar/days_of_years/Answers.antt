use Rattle.std.proofs.Common.{arith}
use Rattle.defmt_dates.specs.Years.{days_of_years}
use Rattle.defmt_dates.proofs.calendar.days_of_years.Goals as goal

pub returns : goal.returns
unfolding days_of_years
returns c = omega arith
