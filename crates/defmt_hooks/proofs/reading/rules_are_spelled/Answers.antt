use Rattle.defmt_hooks.proofs.Spelled.{rules_found, rules_again}
use Rattle.defmt_hooks.proofs.reading.rules_are_spelled.Goals as goal

pub returns-clause-found : goal.returns-clause-found
returns-clause-found c = rules_found

pub returns-clause-again : goal.returns-clause-again
returns-clause-again c = rules_again
