use Rattle.std.proofs.Common.{◌-◌, ◌*◌, ◌+◌, ℕ, get_or, refl, arith}
use Rattle.std.proofs.lemmas.Str.{IsCharBoundary-start}
use Rattle.defmt_shapes.proofs.DecimalLaws.{at_least}
use Rattle.defmt_shapes.proofs.QuickHeads.{digit_more}
use Rattle.defmt_shapes.proofs.quick.numbers.long_decimal.Goals as goal

pub loop-at-init : goal.loop-at-init
loop-at-init c = record { place = IsCharBoundary-start c.args.text.now c.utf8.text; digits = tt; value = refl }

pub loop-at-preserved : goal.loop-at-preserved
loop-at-preserved c = digit_more c.args.text.now c.as_bytes-byte-items.result.now c.loop-at.at c.loop-at.number c.from.result c.utf8.text c.as_bytes-byte-items.ensures.value c.loop-at-test.true c.if-byte-lt48.false c.if-byte-gt57.false c.from.ensures c.loop-at.invariant

pub returns-then-number-gt-MOST-clause-value : goal.returns-then-number-gt-MOST-clause-value
returns-then-number-gt-MOST-clause-value c = λ language n rest h.
    let digit : ℕ = get_or c.as_bytes-byte-items.result.now c.loop-at.at 0 - 48 in
    let more = digit_more c.args.text.now c.as_bytes-byte-items.result.now c.loop-at.at c.loop-at.number digit c.utf8.text c.as_bytes-byte-items.ensures.value c.loop-at-test.true c.if-byte-lt48.false c.if-byte-gt57.false refl c.loop-at.invariant in
    let least = at_least language c.args.text.now rest (c.loop-at.at + 1) (c.loop-at.number * 10 + digit) n more h in
    omega (arith, least, c.if-number-gt-MOST.true)
