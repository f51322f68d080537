use Rattle.std.proofs.Common.{◌≡◌, ◌<◌, ◌+◌, get_or, length, take, drop, ap, arith, sym}
use Rattle.std.proofs.lemmas.List.{take_rest}
use Rattle.std.proofs.lemmas.Str.{IsCharBoundary-after_ascii}
use Rattle.defmt_lines.proofs.Spaces.{cut_given, cut_none}
use Rattle.defmt_lines.proofs.line.cut.Goals as goal

pub range_from-requires : goal.range_from-requires
range_from-requires c =
    let within : c.loop-i.i < length c.args.text.now = omega (arith, ap length c.as_bytes-byte-items.ensures.value, c.loop-i-test.true) in
    let is : get_or c.args.text.now c.loop-i.i 0 ≡ 32 = rw c.as_bytes-byte-items.ensures.value at c.if-byte-eq32.true in
    λ some. IsCharBoundary-after_ascii c.args.text.now c.loop-i.i c.utf8.text within (omega (arith, is))

pub returns-then-byte-eq32 : goal.returns-then-byte-eq32
returns-then-byte-eq32 c =
    let within : c.loop-i.i < length c.args.text.now = omega (arith, ap length c.as_bytes-byte-items.ensures.value, c.loop-i-test.true) in
    let is : get_or c.args.text.now c.loop-i.i 0 ≡ 32 = rw c.as_bytes-byte-items.ensures.value at c.if-byte-eq32.true in
    let front : c.range.result.now ≡ take c.loop-i.i c.args.text.now = grind (arith, c.range.ensures.value) in
    let back : c.range_from.result.now ≡ drop (c.loop-i.i + 1) c.args.text.now = grind (arith, c.range_from.ensures.value, take_rest) in
    cut_given c.args.text.now c.range.result.now c.range_from.result.now c.loop-i.i within c.loop-i.invariant is front back

pub returns : goal.returns
returns c =
    let whole : length c.args.text.now ≡ length c.as_bytes-byte-items.result.now = sym (ap length c.as_bytes-byte-items.ensures.value) in
    sym (cut_none c.args.text.now (λ k lt. c.loop-i.invariant k (omega (arith, whole, c.loop-i-test.false))))
