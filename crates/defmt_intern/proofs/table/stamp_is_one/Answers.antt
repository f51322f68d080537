use Rattle.defmt_intern.proofs.Stamps.{stamp_is, stamp_there}
use Rattle.defmt_intern.proofs.table.stamp_is_one.Goals as goal

pub returns-clause-there : goal.returns-clause-there
returns-clause-there c = stamp_there

pub returns-clause-one : goal.returns-clause-one
returns-clause-one c = stamp_is
