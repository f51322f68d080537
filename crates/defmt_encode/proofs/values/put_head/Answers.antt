use Rattle.std.proofs.lemmas.Result.{err_from_is_err_and}
use Rattle.byteorder.specs.Endian.{little_bytes}
use Rattle.defmt_encode.specs.Carry.{variant_byte}
use Rattle.defmt_encode.proofs.Chain.{refused_more, chain}
use Rattle.defmt_encode.proofs.values.put_head.Goals as goal

pub returns-in_err-at : goal.returns-in_err-at
returns-in_err-at c =
    let p = err_from_is_err_and c.from_residual.result c.from_residual.ensures.1 in
    let index = rw c.from.ensures at c.in_err-at.ensures.puts in
    rw p.1 (refused_more c.args.out.now c.put_number.new.out c.args.at (little_bytes 2 c.args.index) (variant_byte c.args.variant) index)

pub returns : goal.returns
returns c =
    let index = rw c.from.ensures at c.in_ok-at.ensures.puts in
    chain c.args.out.now c.put_number.new.out c.put_variant.new.out c.args.at c.in_ok-at.at c.put_variant.result (little_bytes 2 c.args.index) (variant_byte c.args.variant) index c.put_variant.ensures
