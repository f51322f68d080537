use Rattle.std.proofs.Common.{arith}
use Rattle.dl_io.proofs.Streams.{read_filled}
use Rattle.dl_io.proofs.calls.read_more.Goals as goal

pub returns-clause-bytes : goal.returns-clause-bytes
returns-clause-bytes g c = read_filled _ _ c.read.result c.args.buf.now c.read.new.buf c.args.filled _ (omega arith) c.read.ensures.bound c.read.ensures.bytes
