use Rattle.std.proofs.Common.{◌≡◌, ◌+◌, length}
use Rattle.rtt_control.specs.Control.{first_refusal}
use Rattle.rtt_control.proofs.checks.check.Given as goal

abbrev pub invariant-loop-rest : goal.invariant-loop-rest
invariant-loop-rest l = (first_refusal l.size l.base l.number l.rest ≡ first_refusal l.size l.base l.initial.number l.list) × (l.number + length l.rest ≡ l.initial.number + length l.list)

abbrev pub decreases-loop-rest : goal.decreases-loop-rest
decreases-loop-rest l = length l.rest
