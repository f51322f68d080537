use Rattle.std.proofs.Common.{arith}
use Rattle.defmt_encode.specs.Carry.{stamp_args, message_of}
use Rattle.defmt_encode.proofs.Most.{message_short, written}
use Rattle.defmt_encode.proofs.writing.message.Goals as goal

pub returns-then-most_of-le-SHORT : goal.returns-then-most_of-le-SHORT
returns-then-most_of-le-SHORT c =
    written c.args.out.now c.put_message.new.out (message_of c.args.table.now.entries c.args.place (stamp_args c.args.stamp) c.args.stm.now.index c.args.stm.now.args) c.put_message.result
    (message_short c.args.table.now.entries c.args.place c.args.stamp c.args.stm.now.index c.args.stm.now.args c.most_of.result (omega arith) (c.most_of.ensures (omega arith)))
    c.put_message.ensures
