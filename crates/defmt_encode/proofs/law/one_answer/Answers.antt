use Rattle.defmt_encode.proofs.Laws as laws
use Rattle.defmt_encode.proofs.law.one_answer.Goals as goal

pub returns-clause-one_heard : goal.returns-clause-one_heard
returns-clause-one_heard c = laws.one_heard

pub returns-clause-one_met : goal.returns-clause-one_met
returns-clause-one_met c = laws.one_met

pub returns-clause-never_both : goal.returns-clause-never_both
returns-clause-never_both c = laws.never_both
