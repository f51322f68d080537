use Rattle.std.proofs.Common.{◌∷◌, []}
use Rattle.std.proofs.lemmas.Result.{err_from_is_err_and}
use Rattle.defmt_encode.specs.Carry.{text_end}
use Rattle.defmt_encode.proofs.Chain.{refused_more, chain}
use Rattle.defmt_encode.proofs.values.put_ended.Goals as goal

pub returns-in_err-at : goal.returns-in_err-at
returns-in_err-at c =
    let p = err_from_is_err_and c.from_residual.result c.from_residual.ensures.1 in
    rw p.1 (refused_more c.args.out.now c.put_chunk.new.out c.args.at c.args.bytes.now (text_end ∷ []) c.in_err-at.ensures)

pub returns : goal.returns
returns c = chain c.args.out.now c.put_chunk.new.out c.put.new.out c.args.at c.in_ok-at.at c.put.result c.args.bytes.now (text_end ∷ []) c.in_ok-at.ensures c.put.ensures
