use Rattle.defmt_writers.specs.Takes.{Takes}
use Rattle.defmt_steer.proofs.host.OrderSender.take_all.Given as goal

abbrev pub invariant-loop : goal.invariant-loop
invariant-loop g l = Takes (g.D.DownEnd.view l.fn.self.reads) (g.D.DownEnd.view l.self.reads) l.fn.self.captured l.self.captured 1

abbrev pub decreases-loop : goal.decreases-loop
decreases-loop g l = l.self.captured.room
