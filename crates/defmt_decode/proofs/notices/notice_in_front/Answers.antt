use Rattle.defmt_decode.proofs.Planned.{plan_notice}
use Rattle.defmt_decode.proofs.notices.notice_in_front.Goals as goal

pub returns-in-Some : goal.returns-in-Some
returns-in-Some c = plan_notice c.args.table.now c.args.bytes.now c.args.size c.in-Some.origin c.args.text.now c.message.new.out c.in-Some.end c.in-Some.ensures

pub returns-in-None : goal.returns-in-None
returns-in-None c = rw c.table.ensures at c.notice_of_any.ensures
