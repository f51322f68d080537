use Rattle.std.proofs.Common.{arith}
use Rattle.defmt_lines.proofs.OrderLaws.{extended}
use Rattle.defmt_lines.proofs.orders.Orders.with_order.Goals as goal

pub returns : goal.returns
returns c =
    extended c.self.inside.orders c.self.inside.len c.len-at.result c.args.self.now (c.args.number, c.args.level) c.self.view_is c.self.invariant.0 c.self.invariant.1 c.len-at.ensures.count
    (omega (arith, c.len-at.ensures.count, c.requires.room))
