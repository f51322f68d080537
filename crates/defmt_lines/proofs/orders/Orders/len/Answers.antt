use Rattle.std.proofs.Common.{◌∙◌, ap, arith, length, sym}
use Rattle.defmt_lines.proofs.OrderLaws.{count_is}
use Rattle.defmt_lines.proofs.orders.Orders.len.Goals as goal

pub returns-clause-count : goal.returns-clause-count
returns-clause-count c = sym (count_is c.self.inside.orders c.self.inside.len (omega (arith, c.self.invariant.0, c.self.invariant.1))) ∙ ap length c.self.view_is
