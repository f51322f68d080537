use Rattle.std.proofs.Common.{ℕ, ap, ◌∙◌}
use Rattle.defmt_steer.specs.Steers.{Plan, due}
use Rattle.rtt_down.specs.Orders.{orders_joined}
use Rattle.defmt_steer.proofs.host.OrderSender.into_parts.Goals as goal

pub returns-clause-sent : goal.returns-clause-sent
returns-clause-sent g c =
    let host = c.args.self in
    host.sent ∙ ap (λ (plan : Plan). orders_joined (due plan host.count.frames)) host.plan
    ∙ ap (λ (n : ℕ). orders_joined (due g.N.Hosting.plan n)) host.counts.frames_are
