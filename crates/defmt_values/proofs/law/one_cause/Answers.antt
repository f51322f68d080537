use Rattle.defmt_values.proofs.Faults as faults
use Rattle.defmt_values.proofs.law.one_cause.Goals as goal

pub returns-clause-some : goal.returns-clause-some
returns-clause-some c = faults.fits_or_not

pub returns-clause-one : goal.returns-clause-one
returns-clause-one c = faults.one_cause

pub returns-clause-never_both : goal.returns-clause-never_both
returns-clause-never_both c = faults.never_both
