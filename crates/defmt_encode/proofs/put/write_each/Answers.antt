use Rattle.std.proofs.Common.{refl, sym, arith}
use Rattle.std.proofs.Math.Nat.{div-one}
use Rattle.defmt_encode.proofs.Numbers.{written_more, written_all}
use Rattle.defmt_encode.proofs.put.write_each.Goals as goal

pub loop-byte-init : goal.loop-byte-init
loop-byte-init c = record { done = refl; left_is = sym (div-one c.args.n) }

pub loop-byte-preserved : goal.loop-byte-preserved
loop-byte-preserved c = written_more _ _ c.args.n _ (omega arith) c.loop-byte.invariant

pub returns : goal.returns
returns c = written_all _ _ c.args.n _ _ (omega arith) (omega arith) c.loop-byte.invariant
