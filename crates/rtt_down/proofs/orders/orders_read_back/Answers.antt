use Rattle.rtt_down.proofs.Cutting.{read_back}
use Rattle.rtt_down.proofs.orders.orders_read_back.Goals as goal

pub returns : goal.returns
returns c = read_back
