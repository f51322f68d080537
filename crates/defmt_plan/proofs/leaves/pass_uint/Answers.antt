use Rattle.std.proofs.Common.{◌∙◌}
use Rattle.defmt_plan.proofs.Values.{passed_uint}
use Rattle.defmt_plan.proofs.leaves.pass_uint.Goals as goal

pub returns : goal.returns
returns c = λ t. let is = c.from-width.ensures ∙ c.size_bytes.ensures.value in passed_uint t c.args.hint c.args.bytes.now c.args.before.read c.args.out.now c.args.before.written c.put_uint.new.out c.in_ok-written.written c.args.size c.from-width.result c.in_ok-number.number is (rw is c.in_ok-number.ensures.small) (rw is c.in_ok-number.ensures.carried) c.in_ok-written.ensures
