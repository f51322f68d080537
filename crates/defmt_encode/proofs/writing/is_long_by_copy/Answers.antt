use Rattle.std.proofs.Common.{arith}
use Rattle.defmt_encode.specs.Carry.{stamp_args, message_of}
use Rattle.defmt_encode.proofs.Most.{not_long, is_long}
use Rattle.defmt_encode.proofs.writing.is_long_by_copy.Goals as goal

pub returns-in-Ok : goal.returns-in-Ok
returns-in-Ok c = not_long (message_of c.args.table.now.entries c.args.place (stamp_args c.args.stamp) c.args.stm.now.index c.args.stm.now.args) (omega (arith, c.in-Ok.ensures.end_is, c.in-Ok.ensures.fits))

pub returns-in-Err : goal.returns-in-Err
returns-in-Err c = is_long (message_of c.args.table.now.entries c.args.place (stamp_args c.args.stamp) c.args.stm.now.index c.args.stm.now.args) (omega (arith, c.in-Err.ensures.long))
