use Rattle.std.proofs.Common.{◌≡◌, ◌+◌, length}
use Rattle.ring_bench.proofs.passage.take_all.Given as goal

abbrev pub invariant-loop : goal.invariant-loop
invariant-loop g l =
    (goal.iterator-loop g).can_next l.iterator' × (goal.iterator-loop g).is_finite l.iterator'
    × (length (g.D.DownEnd.view l.down).got + l.left ≡ length (g.D.DownEnd.view l.initial.down).got + l.initial.left)
    × ((g.D.DownEnd.view l.down).split ≡ (g.D.DownEnd.view l.initial.down).split)
