use Rattle.std.proofs.Common.{sym, true}
use Rattle.defmt_forms.proofs.Blocks.{passed_more}
use Rattle.defmt_forms.specs.Tamed.{is_bare}
use Rattle.defmt_forms.proofs.looks.are_bare.Goals as goal

pub blocks-2-preserved : goal.blocks-2-preserved
blocks-2-preserved c =
    let block = c.in-Some-split_first_chunk in
    passed_more is_bare _ c.blocks-2.rest.now block.block.now block.behind.now true true c.blocks-2.invariant block.ensures.cases.0 block.ensures.cases.1
    (sym (c.is_block_bare-in-Some-split_first_chunk.ensures c.if-not-is_block_bare-2.false))
