use Rattle.defmt_plan.proofs.Values.{passed_str}
use Rattle.defmt_plan.proofs.leaves.pass_str.Goals as goal

pub returns : goal.returns
returns c = λ t. passed_str t c.args.hint c.args.bytes.now c.args.before.read c.args.out.now c.args.before.written c.put_str.new.out c.in_ok-written.written c.in_ok-text.text.now c.in_ok-text.ensures.text c.in_ok-text.ensures.few c.in_ok-text.ensures.carried c.in_ok-written.ensures
