use Rattle.std.proofs.Common.{refl, sym, true, arith}
use Rattle.defmt_forms.proofs.Blocks.{passed_all, passed_more, passed_none, printable_are_quiet}
use Rattle.defmt_forms.specs.Tamed.{is_printable}
use Rattle.defmt_forms.proofs.looks.are_printable.Goals as goal

pub blocks-2-init : goal.blocks-2-init
blocks-2-init c =
    let first = c.in-Some-split_first_chunk in
    passed_more is_printable c.args.text.now c.args.text.now first.first.now first.behind.now true true
    (passed_none is_printable c.args.text.now c.in-Some.last.now true c.in-Some.ensures.cases.1 (sym (c.are_both_printable.ensures.second c.if-not-are_both_printable.false)))
    first.ensures.cases.0 first.ensures.cases.1 (sym (c.are_both_printable.ensures.first c.if-not-are_both_printable.false))

pub blocks-2-preserved : goal.blocks-2-preserved
blocks-2-preserved c =
    let block = c.in-Some-split_first_chunk-2 in
    passed_more is_printable _ c.blocks-2.rest.now block.block.now block.behind.now true true c.blocks-2.invariant block.ensures.cases.0 block.ensures.cases.1
    (sym (c.are_both_printable-in-blocks-2.ensures.first c.if-not-are_both_printable-2.false))

pub returns : goal.returns
returns c = λ _.
    printable_are_quiet c.args.text.now
    (passed_all is_printable c.args.text.now c.blocks-2.rest.now true (omega (arith, c.in-Some.ensures.cases.2)) (omega (arith, c.blocks-2-test.false)) c.blocks-2.invariant refl)
