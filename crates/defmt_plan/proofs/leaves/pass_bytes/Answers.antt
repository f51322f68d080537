use Rattle.std.proofs.Common.{arith}
use Rattle.defmt_plan.proofs.Values.{passed_bytes}
use Rattle.defmt_plan.proofs.leaves.pass_bytes.Goals as goal

pub returns : goal.returns
returns c = λ t. passed_bytes t c.args.hint c.args.bytes.now c.args.before.read c.args.out.now c.args.before.written c.put_bytes.new.out c.in_ok-written.written c.in_ok-count.count c.in_ok-chunk.chunk.now (omega (arith, c.in_ok-count.ensures.small)) c.in_ok-chunk.ensures.size c.in_ok-chunk.ensures.small c.in_ok-count.ensures.carried c.in_ok-chunk.ensures.carried c.in_ok-written.ensures
