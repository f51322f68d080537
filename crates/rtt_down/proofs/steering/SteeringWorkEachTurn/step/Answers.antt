use Rattle.std.proofs.Common.{ℕ, ◌+◌, ◌==◌, ap, ◌∙◌}
use Rattle.std.specs.Prelude.{if◌then◌else◌}
use Rattle.rtt_down.proofs.Next.{turns_of-snoc}
use Rattle.rtt_down.specs.Steered.{turns_of}
use Rattle.rtt_down.proofs.steering.SteeringWorkEachTurn.step.Goals as goal

pub append-requires-clause-place : goal.append-requires-clause-place
append-requires-clause-place g c = rw (c.self.invariant.0, c.self.view_is) c.requires.place

pub returns-clause-done : goal.returns-clause-done
returns-clause-done g c w =
    let turns = c.self.inside.bridge.turns.turns in
    rw (← c.self.view_is)
    (ap (turns_of w) c.append.ensures.turns
    ∙ turns_of-snoc w turns c.append.result
    ∙ ap (λ (n : ℕ). turns_of w turns + (if n == w then 1 else 0)) c.append.ensures.writer)
