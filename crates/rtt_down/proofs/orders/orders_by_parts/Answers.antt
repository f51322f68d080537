use Rattle.rtt_down.proofs.Cutting.{clean, cut_is, orders_by_open}
use Rattle.rtt_down.proofs.orders.orders_by_parts.Goals as goal

pub returns-clause-lines : goal.returns-clause-lines
returns-clause-lines c = cut_is

pub returns-clause-newlines : goal.returns-clause-newlines
returns-clause-newlines c = clean

pub returns-clause-orders : goal.returns-clause-orders
returns-clause-orders c = orders_by_open
