use Rattle.defmt_eager.proofs.Parts.{puts_of}
use Rattle.defmt_plan.proofs.planned.put_front.Goals as goal

pub returns-in-Some : goal.returns-in-Some
returns-in-Some c = rw c.in-Some.is (puts_of c.put_short.result c.args.out.now c.args.stamped c.put_short.new.out c.in-Some.front c.as_str.ensures.utf8 (rw (c.as_bytes.ensures.value, c.as_str.ensures.text) at c.put_short.ensures))
