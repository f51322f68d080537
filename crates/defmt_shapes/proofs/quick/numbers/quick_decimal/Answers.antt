use Rattle.std.proofs.Common.{◌<◌, ◌≤◌, List, ℕ, ap, length, refl, take, arith}
use Rattle.std.proofs.lemmas.List.{length-take}
use Rattle.std.proofs.lemmas.Str.{IsCharBoundary-start}
use Rattle.defmt_shapes.proofs.QuickHeads.{digit_of_front, digits_few}
use Rattle.defmt_shapes.proofs.quick.numbers.quick_decimal.Goals as goal

pub loop-i-init : goal.loop-i-init
loop-i-init c = record { place = IsCharBoundary-start c.args.text.now c.utf8.text; digits = tt; value = refl }

pub overflow_mul-number : goal.overflow_mul-number
overflow_mul-number c =
    let early : c.loop-i.i ≤ 18 = omega (arith, c.loop-i-test.true, c.min.ensures, length-take c.min.result c.as_bytes.result.now) in
    omega (arith, digits_few c.args.text.now c.loop-i.i c.loop-i.number early c.loop-i.invariant)

pub overflow_add-number : goal.overflow_add-number
overflow_add-number c =
    let early : c.loop-i.i ≤ 18 = omega (arith, c.loop-i-test.true, c.min.ensures, length-take c.min.result c.as_bytes.result.now) in
    omega (arith, c.from.ensures, c.in-Some.ensures.1, c.in-Some.ensures.2, digits_few c.args.text.now c.loop-i.i c.loop-i.number early c.loop-i.invariant)

pub loop-i-preserved : goal.loop-i-preserved
loop-i-preserved c =
    let front = length-take c.min.result c.as_bytes.result.now in
    let early : c.loop-i.i < c.min.result = omega (arith, c.loop-i-test.true, front) in
    let within : c.loop-i.i < length c.args.text.now = omega (arith, c.loop-i-test.true, front, ap length c.as_bytes.ensures.value) in
    digit_of_front c.args.text.now (take c.min.result c.as_bytes.result.now) c.min.result c.loop-i.i c.loop-i.number c.from.result c.utf8.text (ap (λ (t : List ℕ). take c.min.result t) c.as_bytes.ensures.value) early within
    c.in-Some.ensures.0 c.in-Some.ensures.1 (omega (arith, c.from.ensures, c.in-Some.ensures.2)) c.loop-i.invariant
