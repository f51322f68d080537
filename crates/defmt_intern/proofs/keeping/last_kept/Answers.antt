use Rattle.std.proofs.Common.{◌∙◌, sym, arith}
use Rattle.defmt_intern.proofs.Slots.{greatest, passed, all_passed}
use Rattle.defmt_intern.proofs.keeping.last_kept.Goals as goal

pub returns-then-is_some : goal.returns-then-is_some
returns-then-is_some c = greatest c.args.slots.now c.each.rest.now c.in-Some.front.now c.in-Some.slot.now c.each.invariant.0 c.in-Some.ensures.cases.0 (sym c.is_some.ensures ∙ c.if-is_some.true)

pub each-preserved : goal.each-preserved
each-preserved c =
    (passed c.args.slots.now c.each.rest.now c.in-Some.front.now c.in-Some.slot.now c.each.invariant.0 c.in-Some.ensures.cases.0 (sym c.is_some.ensures ∙ c.if-is_some.false), omega (arith, c.in-Some.ensures.cases.1, c.each.invariant.1))

pub returns : goal.returns
returns c = all_passed c.args.slots.now c.each.rest.now c.each.invariant.0 c.in_default.ensures.cases
