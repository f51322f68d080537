use Rattle.rtt_ring.proofs.Kept.{is_bounded}
use Rattle.rtt_ring.proofs.plain.PlainRingUpEnd.size.Goals as goal

pub returns-clause-bounded : goal.returns-clause-bounded
returns-clause-bounded c = is_bounded _ _ _ _ _ _ _ _ _ c.args.self.now.kept _
