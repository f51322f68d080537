use Rattle.std.proofs.Common.{◌≡◌}
use Rattle.defmt_writers.specs.Takes.{Takes}
use Rattle.rtt_ring.specs.Views.{UpKept}
use Rattle.defmt_steer.proofs.host.OrderSender.take_rest.Given as goal

abbrev pub invariant-loop : goal.invariant-loop
invariant-loop g l =
    let u = g.V.UpEnd.view l.initial.up in
    let v = g.V.UpEnd.view l.up in
    (goal.iterator-loop g).can_next l.iterator' × (goal.iterator-loop g).is_finite l.iterator'
    × Takes (g.D.DownEnd.view l.fn.self.reads) (g.D.DownEnd.view l.self.reads) l.fn.self.captured l.self.captured 1
    × UpKept u v × (v.sent ≡ u.sent)
