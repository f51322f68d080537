use Rattle.std.proofs.Common.{length}
use Rattle.std.proofs.lemmas.Result.{err_from_is_err_and}
use Rattle.byteorder.specs.Endian.{little_bytes}
use Rattle.defmt_encode.proofs.Chain.{refused_more, chain}
use Rattle.defmt_encode.proofs.values.put_text.Goals as goal

pub returns-in_err-at : goal.returns-in_err-at
returns-in_err-at c =
    let p = err_from_is_err_and c.from_residual.result c.from_residual.ensures.1 in
    rw p.1 (refused_more c.args.out.now c.put_number.new.out c.args.at (little_bytes 4 (length c.args.bytes.now)) c.args.bytes.now c.in_err-at.ensures.puts)

pub returns : goal.returns
returns c = chain c.args.out.now c.put_number.new.out c.put_chunk.new.out c.args.at c.in_ok-at.at c.put_chunk.result (little_bytes 4 (length c.args.bytes.now)) c.args.bytes.now c.in_ok-at.ensures.puts c.put_chunk.ensures
