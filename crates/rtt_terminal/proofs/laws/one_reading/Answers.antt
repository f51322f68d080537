use Rattle.rtt_terminal.proofs.Items.{shows_one, shows_no_fault, fault_one}
use Rattle.rtt_terminal.proofs.laws.one_reading.Goals as goal

pub returns-clause-one : goal.returns-clause-one
returns-clause-one c = shows_one

pub returns-clause-never_both : goal.returns-clause-never_both
returns-clause-never_both c = shows_no_fault

pub returns-clause-first : goal.returns-clause-first
returns-clause-first c = fault_one
