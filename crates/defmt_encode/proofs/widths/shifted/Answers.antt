use Rattle.std.proofs.Common.{sym}
use Rattle.std.proofs.Math.Nat.{div-eq_of_lt}
use Rattle.defmt_values.proofs.Powers.{many_pass}
use Rattle.defmt_encode.proofs.widths.shifted.Goals as goal

pub returns-in-None : goal.returns-in-None
returns-in-None c = sym (div-eq_of_lt (many_pass c.args.n c.args.bytes c.ranges.n.fits (rw c.from.ensures at c.in-None.ensures)))
