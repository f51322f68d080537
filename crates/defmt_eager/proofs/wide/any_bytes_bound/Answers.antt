use Rattle.defmt_eager.proofs.ByteBounds as bounds
use Rattle.defmt_eager.proofs.wide.any_bytes_bound.Goals as goal

pub returns : goal.returns
returns c = λ hint few narrow. bounds.any_bytes hint c.args.bytes.now c.bytes_of.result (λ k. (c.type_inv.bytes k).fits) c.bytes_of.ensures few narrow
