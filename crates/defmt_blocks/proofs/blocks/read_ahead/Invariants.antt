use Rattle.std.proofs.Common.{◌≤◌, ℕ, []}
use Rattle.std.specs.Io.KnownBytes.{Consumes, prepend_known}
use Rattle.defmt_blocks.specs.Queue.{KnowsOf, bytes_in}
use Rattle.defmt_blocks.proofs.blocks.read_ahead.Given as goal

abbrev pub invariant-blocks-2 : goal.invariant-blocks-2
invariant-blocks-2 g l = record {
  within : l.ahead.size ≤ l.room;
  bytes : Consumes (prepend_known (bytes_in l.fn.ahead.parts.items) (g.S.Source.left l.fn.src)) (prepend_known (bytes_in l.ahead.parts.items) (g.S.Source.left l.src)) [];
  known : (count : ℕ) → KnowsOf count l.fn.ahead.behind (g.S.Source.left l.fn.src) (g.S.Source.faults l.fn.src)
      → KnowsOf count l.ahead.behind (g.S.Source.left l.src) (g.S.Source.faults l.src);
  later : g.S.Source.faults l.fn.src ≤ g.S.Source.faults l.src;
}
