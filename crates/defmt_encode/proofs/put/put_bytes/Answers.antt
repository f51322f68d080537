use Rattle.std.proofs.Common.{◌+◌, length, refl, arith}
use Rattle.defmt_encode.proofs.Chain.{one_part}
use Rattle.defmt_encode.proofs.put.put_bytes.Goals as goal

pub returns-clause-puts : goal.returns-clause-puts
returns-clause-puts c = one_part c.args.out.now c.copy_from_slice.new.self c.args.bytes.now c.args.at (c.args.at + length c.args.bytes.now) c.copy_from_slice.ensures.after refl (omega arith) (omega arith)
