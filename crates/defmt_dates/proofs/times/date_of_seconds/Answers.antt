use Rattle.defmt_dates.specs.Texts.{date_of_seconds}
use Rattle.defmt_dates.proofs.times.date_of_seconds.Goals as goal

pub returns : goal.returns
unfolding date_of_seconds
returns c = c.date_time.ensures
