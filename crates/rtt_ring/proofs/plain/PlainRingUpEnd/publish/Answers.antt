use Rattle.rtt_ring.proofs.Kept.{down_same, publish_kept, up_same}
use Rattle.rtt_ring.proofs.plain.PlainRingUpEnd.publish.Goals as goal

pub invariant_of-self : goal.invariant_of-self
invariant_of-self c = record { kept = publish_kept _ _ _ _ _ _ _ _ _ c.args.self.now.kept _ _ c.publish.ensures.traffic c.mark.ensures }

pub returns-clause-up : goal.returns-clause-up
returns-clause-up c = up_same _ _ _ _ _ _ c.publish.ensures.name c.publish.ensures.traffic

pub returns-clause-down : goal.returns-clause-down
returns-clause-down c = down_same _ _ _ _ _ c.publish.ensures.name c.publish.ensures.traffic
