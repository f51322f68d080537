use Rattle.std.proofs.Common.{arith}
use Rattle.defmt_eager.proofs.Bounds.{uint_most}
use Rattle.defmt_hints.specs.Printed.{printed_uint}
use Rattle.defmt_hints.specs.Written.{Full}
use Rattle.defmt_eager.proofs.stamps.length_in.Goals as goal

pub unreachable-requires : goal.unreachable-requires
unreachable-requires c =
    let full : Full c.args.room.now 0 c.put_uint.new.out (printed_uint c.args.number c.args.hint) = c.in-None.ensures in
    omega (arith, full.over, c.requires, uint_most c.args.number c.args.hint (omega (arith, c.ranges.number.fits)))
