use Rattle.defmt_hints.proofs.Overlapping.{lanes_written}
use Rattle.defmt_plan.proofs.ends.write_eights.Goals as goal

pub returns : goal.returns
returns c = lanes_written c.args.out.now c.args.text.now c.args.at 8 c.requires.within c.requires.count.0 c.requires.count.1
