use Rattle.std.proofs.Common.{refl}
use Rattle.rtt_ring.proofs.Kept.{down_same, put_kept, up_same}
use Rattle.rtt_ring.proofs.plain.PlainRingUpEnd.put.Goals as goal

pub invariant_of-self : goal.invariant_of-self
invariant_of-self c = record { kept = put_kept _ _ _ _ _ _ _ _ _ c.args.self.now.kept c.store.new.image.items c.args.bytes.now _ _ c.put.ensures.traffic c.store.ensures c.requires refl }

pub returns-clause-up : goal.returns-clause-up
returns-clause-up c = up_same _ _ _ _ _ _ c.put.ensures.name c.put.ensures.traffic

pub returns-clause-down : goal.returns-clause-down
returns-clause-down c = down_same _ _ _ _ _ c.put.ensures.name c.put.ensures.traffic
