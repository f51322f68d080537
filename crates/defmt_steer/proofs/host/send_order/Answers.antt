use Rattle.std.proofs.Common.{ℕ, List, ◌++◌, length, ap, ◌∙◌, arith}
use Rattle.defmt_steer.proofs.Hosted.{sent_whole}
use Rattle.defmt_steer.proofs.host.send_order.Goals as goal

pub returns-clause-sent : goal.returns-clause-sent
returns-clause-sent g c =
    let u = g.U.UpEnd.view c.args.up.now in
    sent_whole u (g.U.UpEnd.view c.skip.new.up) c.order_bytes.result c.skip.result c.skip.ensures
    (omega (arith, ap length c.order_bytes.ensures)) c.requires.ring.0 c.requires.ring.1 c.requires.few
    ∙ ap (λ (l : List ℕ). u.sent ++ l) c.order_bytes.ensures
