use Rattle.rzcobs_core.proofs.Backwards.{NoZero-blocks}
use Rattle.rzcobs_core.proofs.laws.no_zero_in_code.Goals as goal

pub returns : goal.returns
returns c code bytes blocks = NoZero-blocks code bytes blocks
