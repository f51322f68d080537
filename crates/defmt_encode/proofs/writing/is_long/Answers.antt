use Rattle.std.proofs.Common.{arith}
use Rattle.defmt_encode.specs.Carry.{stamp_args, message_of}
use Rattle.defmt_encode.proofs.Most.{message_short, not_long}
use Rattle.defmt_encode.proofs.writing.is_long.Goals as goal

pub returns-then-most_of-le-SHORT : goal.returns-then-most_of-le-SHORT
returns-then-most_of-le-SHORT c =
    not_long (message_of c.args.table.now.entries c.args.place (stamp_args c.args.stamp) c.args.stm.now.index c.args.stm.now.args)
    (message_short c.args.table.now.entries c.args.place c.args.stamp c.args.stm.now.index c.args.stm.now.args c.most_of.result (omega arith) (c.most_of.ensures (omega arith)))
