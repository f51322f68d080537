use Rattle.std.proofs.Common.{◌∙◌, refl}
use Rattle.defmt_values.proofs.Again.{passed_fits, fits_again}
use Rattle.defmt_values.proofs.Faults.{refused_first, statement_refused}
use Rattle.defmt_values.proofs.fitting.check.Goals as goal

pub returns-clause-refused : goal.returns-clause-refused
returns-clause-refused c = refused_first c.args.table.now.entries c.args.stm.now.index c.args.stm.now.args _ c.first_cause.ensures

pub returns-clause-first : goal.returns-clause-first
returns-clause-first c = λ cause f. c.first_cause.ensures ∙ statement_refused c.args.table.now.entries c.args.stm.now.index c.args.stm.now.args cause f

pub returns-clause-passed : goal.returns-clause-passed
returns-clause-passed c = passed_fits c.args.table.now.entries c.args.stm.now.index c.args.stm.now.args _ c.first_cause.ensures

pub returns-clause-fits : goal.returns-clause-fits
returns-clause-fits c = λ f. rw (c.first_cause.ensures ∙ fits_again c.args.table.now.entries c.args.stm.now.index c.args.stm.now.args f) refl
