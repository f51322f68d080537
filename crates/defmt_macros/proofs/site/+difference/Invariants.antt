use Rattle.std.proofs.Common.{length}
use Rattle.defmt_macros.proofs.site.+difference.Given as goal

abbrev pub decreases-difference : goal.decreases-difference
decreases-difference l = length l.own.now
