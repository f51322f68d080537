use Rattle.rzcobs_core.proofs.Spreading.{swizzle_fine, spread_put}
use Rattle.rzcobs_core.proofs.decoder.put_spread.Goals as goal

pub swizzle-all : goal.swizzle-all
swizzle-all c = swizzle_fine c.args.code _ c.requires.small

pub returns-clause-put : goal.returns-clause-put
returns-clause-put c = spread_put c.args.code c.args.at _ _ c.args.out.now c.requires.small c.requires.place c.requires.within
