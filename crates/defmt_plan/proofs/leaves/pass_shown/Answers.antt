use Rattle.defmt_plan.proofs.Values.{passed_debug, passed_display}
use Rattle.defmt_plan.proofs.leaves.pass_shown.Goals as goal

pub returns-clause-debug : goal.returns-clause-debug
returns-clause-debug c = λ t hint. passed_debug t hint c.args.bytes.now c.args.before.read c.args.out.now c.args.before.written c.put_text.new.out c.in_ok-written.written c.in_ok-text.text.now c.in_ok-text.ensures.text c.in_ok-text.ensures.carried (rw c.as_bytes.ensures.value at c.in_ok-written.ensures)

pub returns-clause-display : goal.returns-clause-display
returns-clause-display c = λ t hint. passed_display t hint c.args.bytes.now c.args.before.read c.args.out.now c.args.before.written c.put_text.new.out c.in_ok-written.written c.in_ok-text.text.now c.in_ok-text.ensures.text c.in_ok-text.ensures.carried (rw c.as_bytes.ensures.value at c.in_ok-written.ensures)
