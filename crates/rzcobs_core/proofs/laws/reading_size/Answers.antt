use Rattle.rzcobs_core.proofs.Sizes.{blocks_size}
use Rattle.rzcobs_core.proofs.laws.reading_size.Goals as goal

pub returns : goal.returns
returns c code bytes blocks = blocks_size code bytes blocks
