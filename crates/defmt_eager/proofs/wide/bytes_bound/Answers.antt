use Rattle.defmt_eager.proofs.ByteBounds as bounds
use Rattle.defmt_eager.proofs.wide.bytes_bound.Goals as goal

pub returns : goal.returns
returns c = bounds.bytes_bound c.args.hint c.args.bytes.now c.most_bytes.result c.bytes_of.result (λ k. (c.type_inv.bytes k).fits) c.most_bytes.ensures.value c.bytes_of.ensures
