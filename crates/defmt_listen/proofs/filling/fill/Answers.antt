use Rattle.std.proofs.Common.{arith, refl}
use Rattle.dl_io.proofs.Streams.{read_goes_on}
use Rattle.defmt_listen.proofs.filling.fill.Goals as goal

pub reads-preserved : goal.reads-preserved
reads-preserved g c = record {
  within = c.in-Ok.ensures.within;
  some = omega (arith, c.read_behind.auto.buf, c.reads.invariant.some);
  taken = read_goes_on _ _ _ _ c.reads.buf c.read_behind.new.buf c.reads.count c.in-Ok.more c.reads.invariant.taken refl c.in-Ok.ensures.bytes;
  later = omega (arith, c.read_behind.ensures.later, c.reads.invariant.later);
}
