use Rattle.std.proofs.Common.{arith}
use Rattle.dl_io.proofs.Streams.{fetch_filled}
use Rattle.dl_io.proofs.calls.fetch_more.Goals as goal

pub returns-clause-bytes : goal.returns-clause-bytes
returns-clause-bytes g c = fetch_filled _ _ c.fetch.result c.args.buf.now c.fetch.new.buf c.args.filled _ c.requires (omega arith) c.fetch.ensures.bound c.fetch.ensures.bytes
