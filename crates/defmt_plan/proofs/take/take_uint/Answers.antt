use Rattle.std.proofs.Common.{refl}
use Rattle.defmt_plan.proofs.Places.{number_there}
use Rattle.defmt_plan.proofs.take.take_uint.Goals as goal

pub returns-in-8-clause-carried : goal.returns-in-8-clause-carried
returns-in-8-clause-carried c = number_there 8 c.args.width c.args.at c.read_u64.result c.args.bytes.now _ c.type_inv.bytes c.requires.within c.in-8.is c.if-bytes-at.false refl c.read_u64.ensures
