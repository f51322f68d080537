use Rattle.std.proofs.Common.{drop}
use Rattle.defmt_plan.proofs.Striding.{Made}
use Rattle.defmt_plan.proofs.steps.steps_of.Given as goal

abbrev pub invariant-loop-piece : goal.invariant-loop-piece
invariant-loop-piece l = Made l.steps.items l.next.position (drop l.piece-index l.pieces) l.fn.pieces l.all
