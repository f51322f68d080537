use Rattle.std.proofs.Common.{arith}
use Rattle.defmt_hints.proofs.Places.{copied}
use Rattle.defmt_hints.proofs.texts.put.Goals as goal

pub returns : goal.returns
returns c = copied c.args.out.now c.args.text.now c.copy_from_slice.new.self c.args.at c.requires (omega arith) c.copy_from_slice.ensures.after
