use Rattle.defmt_plan.proofs.Values.{passed_char}
use Rattle.defmt_plan.proofs.leaves.pass_char.Goals as goal

pub returns : goal.returns
returns c = λ t. passed_char t c.args.hint c.args.bytes.now c.args.before.read c.args.out.now c.args.before.written c.put_char.new.out c.in_ok-written.written c.in_ok-character.character c.in_ok-character.ensures.scalar c.in_ok-character.ensures.carried c.in_ok-written.ensures
