use Rattle.std.proofs.Common.{◌≡◌, ◌⊎◌, ◌+◌, ◌-◌, ◌≤◌, length, take}
use Rattle.dl_io.specs.Outside.{HasFile}
use Rattle.dl_io.proofs.calls.fetch_all.Given as goal

abbrev pub invariant-loop-fetched : goal.invariant-loop-fetched
invariant-loop-fetched g l = record {
  within : l.fetched ≤ length l.buf.items;
  limited : length l.buf.items ≤ l.limit + 1;
  begins : (l.fetched ≡ 0) ⊎ HasFile (g.F.Shelf.files l.fn.shelf) l.name (λ file. (take l.fetched l.buf.items ≡ take l.fetched file) × (l.fetched ≤ length file));
  same : g.F.Shelf.files l.shelf ≡ g.F.Shelf.files l.fn.shelf;
  later : g.F.Shelf.faults l.fn.shelf ≤ g.F.Shelf.faults l.shelf;
}

abbrev pub decreases-loop-fetched : goal.decreases-loop-fetched
decreases-loop-fetched g l = l.limit + 1 - l.fetched
