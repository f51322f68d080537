use Rattle.std.proofs.Common.{ap}
use Rattle.rtt_down.specs.Steered.{turns_of}
use Rattle.rtt_down.proofs.steered.Steered+Eight+E+EachTurn+K+Steering+K+U+D+C.start.Goals as goal

pub start-shared-requires-clause-fresh : goal.start-shared-requires-clause-fresh
start-shared-requires-clause-fresh g c w = ap (turns_of w) c.in_ok-bridge.ensures.turns
