use Rattle.std.proofs.Common.{◌≡◌}
use Rattle.defmt_writers.specs.Takes.{Takes}
use Rattle.rtt_ring.specs.Views.{UpKept}
use Rattle.defmt_writers.proofs.reader.Reader.take_rest.Given as goal

abbrev pub invariant-loop : goal.invariant-loop
invariant-loop g l =
    let u = g.U.UpEnd.view l.initial.up in
    let v = g.U.UpEnd.view l.up in
    (goal.iterator-loop g).can_next l.iterator' × (goal.iterator-loop g).is_finite l.iterator'
    × Takes (g.D.DownEnd.view l.fn.self.down) (g.D.DownEnd.view l.self.down) l.fn.self.captured l.self.captured 1
    × UpKept u v × (v.sent ≡ u.sent)
