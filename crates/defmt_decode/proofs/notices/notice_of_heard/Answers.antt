use Rattle.std.proofs.Common.{Some, ap}
use Rattle.defmt_decode.proofs.Planned.{put_notice}
use Rattle.defmt_decode.specs.declared.event.Event.{Event}
use Rattle.defmt_decode.proofs.notices.notice_of_heard.Goals as goal

pub returns : goal.returns
returns c = rw c.origin_of.ensures (put_notice c.args.table.now c.args.size c.args.heard.now.place c.args.heard.now.stamp c.args.heard.now.stm.index c.args.heard.now.stm.args c.args.text.now c.put_heard.new.out c.in-Some.front c.in-Some.end c.in-Some.ensures)
