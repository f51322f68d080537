use Rattle.defmt_script.proofs.Stamps.{fits_stamp, never_wide}
use Rattle.defmt_script.proofs.laws.stamps_fit.Goals as goal

pub returns-clause-fits : goal.returns-clause-fits
returns-clause-fits c = fits_stamp

pub returns-clause-narrow : goal.returns-clause-narrow
returns-clause-narrow c = never_wide
