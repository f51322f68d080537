use Rattle.rtt_down.proofs.Counting.{heard_order}
use Rattle.rtt_down.proofs.order_count.OrderCount.hear.Goals as goal

pub returns-in-Some-clause-heard : goal.returns-in-Some-clause-heard
returns-in-Some-clause-heard c heard h =
    let k = c.in-Some.ensures.heard heard h.line_is in
    heard_order heard _ _ _ _ h.seen_is k.0 k.1
