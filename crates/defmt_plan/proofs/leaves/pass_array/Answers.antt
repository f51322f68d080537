use Rattle.defmt_plan.proofs.Values.{passed_array}
use Rattle.defmt_plan.proofs.leaves.pass_array.Goals as goal

pub returns : goal.returns
returns c = λ t. passed_array t c.args.hint c.args.bytes.now c.args.before.read c.args.out.now c.args.before.written c.put_bytes.new.out c.in_ok-written.written c.args.count c.from-size.result c.in_ok-chunk.chunk.now c.from-size.ensures c.in_ok-chunk.ensures.size c.in_ok-chunk.ensures.small c.in_ok-chunk.ensures.carried c.in_ok-written.ensures
