use Rattle.rtt_ring.proofs.Kept.{down_same, look_exact, look_kept, look_view}
use Rattle.rtt_ring.proofs.plain.PlainRingUpEnd.look.Goals as goal

pub invariant_of-self : goal.invariant_of-self
invariant_of-self c = record { kept = look_kept _ _ _ _ _ _ _ _ _ c.args.self.now.kept _ c.look_up.ensures.traffic c.requires _ c.saturating_add-self.ensures }

pub returns-clause-looked : goal.returns-clause-looked
returns-clause-looked c = look_view _ _ _ _ _ _ _ _ _ c.args.self.now.kept _ c.look_up.ensures.traffic c.requires _ _ c.look_up.ensures.name

pub returns-clause-exact : goal.returns-clause-exact
returns-clause-exact c = look_exact _ _ _ _ _ _ _ _ _ c.args.self.now.kept

pub returns-clause-down : goal.returns-clause-down
returns-clause-down c = down_same _ _ _ _ _ c.look_up.ensures.name c.look_up.ensures.traffic
