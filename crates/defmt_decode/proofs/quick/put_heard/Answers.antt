use Rattle.defmt_decode.proofs.Planned.{put_is}
use Rattle.defmt_decode.proofs.quick.put_heard.Goals as goal

pub returns : goal.returns
returns c = put_is c.put_parted_line.result c.args.table.now.entries c.args.heard.now.stamp _ c.args.heard.now.stm.index c.args.heard.now.stm.args c.args.out.now c.put_parted_line.new.out c.in_ok-stamp.ensures c.put_parted_line.ensures
