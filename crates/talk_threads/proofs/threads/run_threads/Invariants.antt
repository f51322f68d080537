use Rattle.std.specs.Prelude.{[], ◌∷◌, slice_index_or}
use Rattle.talk_threads.proofs.threads.run_threads.Given as goal

abbrev pub ghosts-run_named : goal.ghosts-run_named
ghosts-run_named g a = record {
  from = λ w. slice_index_or (a.pens.p0.place ∷ a.pens.p1.place ∷ a.pens.p2.place ∷ a.pens.p3.place ∷ a.pens.p4.place ∷ a.pens.p5.place ∷ a.pens.p6.place ∷ a.pens.p7.place ∷ []) w 0;
  passed = g.G.Gate.passed a.gate.now;
}
