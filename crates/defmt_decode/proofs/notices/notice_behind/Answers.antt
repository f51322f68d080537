use Rattle.std.proofs.Common.{◌≤◌, ◌-◌, length, arith}
use Rattle.defmt_decode.proofs.Behind.{front_put, notice_put}
use Rattle.defmt_decode.proofs.notices.notice_behind.Goals as goal

pub returns-clause-notice : goal.returns-clause-notice
returns-clause-notice c =
    notice_put c.args.text.now c.notice_of_any.new.text c.args.at (c.args.end - c.args.at) (let e : c.args.at ≤ length c.args.text.now = omega arith in e) c.notice_of_any.result _ c.notice_of_any.ensures

pub returns-clause-front : goal.returns-clause-front
returns-clause-front c =
    front_put c.args.text.now c.notice_of_any.new.text c.args.at (c.args.end - c.args.at) (let e : c.args.at ≤ length c.args.text.now = omega arith in e)
