use Rattle.std.proofs.Common.{◌<◌, length}
use Rattle.rtt_modes.specs.Fates.{Going}
use Rattle.rtt_modes.proofs.modes.block.Given as goal

abbrev pub invariant-loop : goal.invariant-loop
invariant-loop g l =
    (goal.iterator-loop g).can_next l.iterator' × (goal.iterator-loop g).is_finite l.iterator'
    × Going (g.U.UpEnd.view l.initial.up) (g.U.UpEnd.view l.up) l.frame l.done × (l.done < length l.frame)
    × g.R.Relief.kept l.relief
