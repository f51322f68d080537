use Rattle.defmt_plan.proofs.Values.{passed_float}
use Rattle.defmt_plan.proofs.leaves.pass_float.Goals as goal

pub returns : goal.returns
returns c = λ t hint. passed_float t hint c.args.bytes.now c.args.before.read c.args.out.now c.args.before.written c.put_float.new.out c.in_ok-written.written c.args.size c.float_width.result c.in_ok-bits.bits c.float_width.ensures c.in_ok-bits.ensures.small c.in_ok-bits.ensures.carried c.in_ok-written.ensures
