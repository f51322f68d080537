use Rattle.std.proofs.Common.{refl, arith}
use Rattle.rzcobs_core.proofs.Spreading.{no_few_of, reads_spread}
use Rattle.rzcobs_core.proofs.decoder.read_last_of.Goals as goal

pub returns-then-before-stored : goal.returns-then-before-stored
returns-then-before-stored c = no_few_of c.args.bytes.now c.args.rest _ c.requires.some (omega (arith, c.requires.behind)) refl (omega arith) (omega arith)

pub returns : goal.returns
returns c = reads_spread c.args.bytes.now c.args.out.now c.put_spread.new.out c.args.rest _ _ c.args.at c.requires.some c.requires.behind c.requires.none refl (omega arith) (omega arith) (omega arith) (omega arith) c.put_spread.ensures.put
