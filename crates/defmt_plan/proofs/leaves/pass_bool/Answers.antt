use Rattle.defmt_plan.proofs.Values.{passed_bool}
use Rattle.defmt_plan.proofs.leaves.pass_bool.Goals as goal

pub returns : goal.returns
returns c = λ t hint. passed_bool t hint c.args.bytes.now c.args.before.read c.args.out.now c.args.before.written c.put_bool.new.out c.in_ok-written.written c.in_ok-value.value c.in_ok-value.ensures c.in_ok-written.ensures
