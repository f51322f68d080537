use Rattle.std.proofs.Common.{[], arith}
use Rattle.dl_io.proofs.Streams.{consumes_then}
use Rattle.std.specs.Io.KnownBytes.{prepend_known}
use Rattle.defmt_blocks.specs.Queue.{bytes_in}
use Rattle.defmt_blocks.proofs.blocks.read_ahead.Goals as goal

pub blocks-2-preserved : goal.blocks-2-preserved
blocks-2-preserved g c = record {
  within = c.add.ensures.within;
  bytes = consumes_then (prepend_known (bytes_in c.args.ahead.now.parts.items) (g.S.Source.left c.args.src.now))
      (prepend_known (bytes_in c.blocks-2.ahead.parts.items) (g.S.Source.left c.blocks-2.src))
      (prepend_known (bytes_in c.add.new.self.parts.items) (g.S.Source.left c.add.new.src)) [] [] c.blocks-2.invariant.bytes c.add.ensures.bytes;
  known = λ count known. c.add.ensures.known count (c.blocks-2.invariant.known count known);
  later = omega (arith, c.add.ensures.later, c.blocks-2.invariant.later);
}

pub returns-then-not-add-clause-known : goal.returns-then-not-add-clause-known
returns-then-not-add-clause-known g c = λ count known. c.add.ensures.known count (c.blocks-2.invariant.known count known)
