use Rattle.std.proofs.Common.{◌∙◌, arith, take}
use Rattle.std.proofs.lemmas.List.{length-take, take_at}
use Rattle.dl_io.proofs.Streams.{read_filled}
use Rattle.defmt_listen.proofs.filling.read_behind.Goals as goal

pub returns-clause-bytes : goal.returns-clause-bytes
returns-clause-bytes g c = read_filled _ _ c.read.result c.args.buf.now c.read.new.buf c.args.filled _ (omega arith) c.read.ensures.bound c.read.ensures.bytes

pub returns-clause-front : goal.returns-clause-front
returns-clause-front g c = take_at (take c.args.filled c.args.buf.now) _ c.args.filled (length-take c.args.filled c.args.buf.now ∙ omega arith)
