use Rattle.std.proofs.Common.{◌≤◌, ◌<◌, ◌-◌, length, take}
use Rattle.std.specs.Io.KnownBytes.{Consumes}
use Rattle.defmt_listen.proofs.filling.fill.Given as goal

abbrev pub invariant-reads : goal.invariant-reads
invariant-reads g l = record {
  within : l.count ≤ length l.buf;
  some : 0 < length l.buf;
  taken : Consumes (g.S.Source.left l.fn.src) (g.S.Source.left l.src) (take l.count l.buf);
  later : g.S.Source.faults l.fn.src ≤ g.S.Source.faults l.src;
}

abbrev pub decreases-reads : goal.decreases-reads
decreases-reads g l = length l.initial.buf - l.count
