use Rattle.std.proofs.Common.{◌≡◌, ◌+◌, ◌++◌, length}
use Rattle.rtt_control.specs.Control.{id_places, listed}
use Rattle.rtt_control.proofs.calls.find_id.Given as goal

abbrev pub invariant-loop-rest : goal.invariant-loop-rest
invariant-loop-rest l = (listed l.first ++ id_places l.at l.rest ≡ id_places 0 l.image) × (l.at + length l.rest ≡ length l.image)

abbrev pub decreases-loop-rest : goal.decreases-loop-rest
decreases-loop-rest l = length l.rest
