use Rattle.std.proofs.Common.{◌≤◌, ◌-◌, length, arith}
use Rattle.defmt_decode.proofs.Behind.{front_put, line_put}
use Rattle.defmt_decode.proofs.Planned.{plan_line}
use Rattle.defmt_decode.proofs.notices.line_behind.Goals as goal

pub returns-clause-line : goal.returns-clause-line
returns-clause-line c =
    line_put c.args.text.now c.message.new.out c.args.at (c.args.end - c.args.at) (let e : c.args.at ≤ length c.args.text.now = omega arith in e) c.message.result _ (plan_line c.message.result c.args.table.now c.args.bytes.now c.args.size _ c.message.new.out c.message.ensures)

pub returns-clause-front : goal.returns-clause-front
returns-clause-front c =
    front_put c.args.text.now c.message.new.out c.args.at (c.args.end - c.args.at) (let e : c.args.at ≤ length c.args.text.now = omega arith in e)
