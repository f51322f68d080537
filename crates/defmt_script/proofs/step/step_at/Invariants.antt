use Rattle.std.proofs.Common.{◌≡◌, length}
use Rattle.defmt_script.specs.Turns.{AreInTurn, step_at}
use Rattle.defmt_script.proofs.step.step_at.Given as goal

abbrev pub invariant-loop-rest : goal.invariant-loop-rest
invariant-loop-rest l = record {
  turn : AreInTurn l.from l.count l.rest;
  same : step_at l.number 0 l.count l.sayings ≡ step_at l.left l.from l.count l.rest;
}

abbrev pub decreases-loop-rest : goal.decreases-loop-rest
decreases-loop-rest l = length l.rest
