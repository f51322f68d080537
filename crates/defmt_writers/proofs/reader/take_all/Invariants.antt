use Rattle.std.proofs.Common.{◌≡◌, length}
use Rattle.defmt_writers.specs.Takes.{Takes}
use Rattle.writer_threads.specs.Passing.{ToldAll}
use Rattle.defmt_writers.proofs.reader.take_all.Given as goal

abbrev pub invariant-loop : goal.invariant-loop
invariant-loop g l =
    let d = g.D.DownEnd.view l.initial.down in
    let e = g.D.DownEnd.view l.down in
    record {
      takes : Takes d e l.initial.capture l.capture 1;
      split : e.split ≡ d.split;
      got : e.got ≡ l.capture.items;
      told : ToldAll (g.G.Gate.told l.gate) (length l.initial.capture.items) (length l.capture.items);
    }

abbrev pub decreases-loop : goal.decreases-loop
decreases-loop g l = l.capture.room
