use Rattle.defmt_steer.proofs.Counted.{counted_first}
use Rattle.defmt_steer.proofs.counting.FrameCount.new.Goals as goal

pub returns-clause-counts : goal.returns-clause-counts
returns-clause-counts c = counted_first
