use Rattle.defmt_plan.proofs.Places.{text_there}
use Rattle.defmt_plan.proofs.take.take_str.Goals as goal

pub returns-in-Ok-clause-carried : goal.returns-in-Ok-clause-carried
returns-in-Ok-clause-carried c = text_there c.args.bytes.now c.in-Ok.text.now c.args.at c.in_ok-count.count c.in_ok-count.ensures.carried c.if-bytes-start.false c.in-Ok.ensures.cases.0
