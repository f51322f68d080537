use Rattle.std.proofs.Common.{length, ap, ◌∙◌, subst, sym}
use Rattle.defmt_steer.proofs.Due.{Front, still_front}
use Rattle.defmt_steer.proofs.Hosted.{host_told}
use Rattle.defmt_steer.specs.Steers.{Plan, due}
use Rattle.rtt_down.specs.Orders.{orders_joined}
use Rattle.defmt_steer.proofs.host.OrderSender.take.Given.{Over}
use Rattle.defmt_steer.proofs.host.OrderSender.take.Goals.{After-deref}
use Rattle.defmt_steer.proofs.host.OrderSender.take.Goals as goal

-- what was sent before is a front of what is due now
front : (g : Over) (c : After-deref g) → let s = c.args.self.now in Front c.deref.result.now c.take_counted-taken.new.count.frames s.next (g.U.UpEnd.view s.sends).sent
front g c =
    let s = c.args.self.now in
    let n = c.take_counted-taken.new.count.frames in
    let sent = (g.U.UpEnd.view s.sends).sent in
    subst (λ (plan : Plan). Front plan n s.next sent) (sym c.deref.ensures.value)
    (still_front s.orders.items s.count.frames n s.next sent c.take_counted-taken.ensures.more s.next_is s.sent)

pub send_due-self-requires-clause-next : goal.send_due-self-requires-clause-next
send_due-self-requires-clause-next g c = (front g (goal.at.send_due-self-requires-clause-next g c).After-deref).within

pub send_due-self-requires-clause-sent : goal.send_due-self-requires-clause-sent
send_due-self-requires-clause-sent g c = (front g (goal.at.send_due-self-requires-clause-sent g c).After-deref).sent_is

pub invariant_of-self-clause-told : goal.invariant_of-self-clause-told
invariant_of-self-clause-told g c =
    let host = c.args.self.now in
    let took = c.take_counted-taken.ensures in
    host_told g.N.Hosting.told (g.G.Gate.told host.gate.now) _ _ _ _ _ host.means took.takes took.room took.few c.tell.ensures host.told

pub invariant_of-self-clause-next_is : goal.invariant_of-self-clause-next_is
invariant_of-self-clause-next_is g c =
    c.send_due-self.ensures.count ∙ ap (λ (plan : Plan). length (due plan c.take_counted-taken.new.count.frames)) c.deref.ensures.value

pub invariant_of-self-clause-sent : goal.invariant_of-self-clause-sent
invariant_of-self-clause-sent g c =
    c.send_due-self.ensures.sent ∙ ap (λ (plan : Plan). orders_joined (due plan c.take_counted-taken.new.count.frames)) c.deref.ensures.value
