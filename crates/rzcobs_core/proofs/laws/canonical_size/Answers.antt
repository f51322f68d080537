use Rattle.rzcobs_core.proofs.Backwards.{NoZero-blocks}
use Rattle.rzcobs_core.proofs.Greedy.{canon_stands}
use Rattle.rzcobs_core.proofs.Sizes.{some_canon}
use Rattle.rzcobs_core.proofs.Steps.{code_size}
use Rattle.rzcobs_core.proofs.laws.canonical_size.Goals as goal

pub returns-clause-no_zero : goal.returns-clause-no_zero
returns-clause-no_zero c message = NoZero-blocks _ _ (canon_stands message).2

pub returns-clause-some : goal.returns-clause-some
returns-clause-some c message some = some_canon message some

pub returns-clause-within : goal.returns-clause-within
returns-clause-within c message = code_size message
