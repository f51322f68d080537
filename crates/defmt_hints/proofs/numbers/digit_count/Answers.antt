use Rattle.std.proofs.Common.{◌≤◌, length, decimal, arith}
use Rattle.std.proofs.lemmas.Fmt.{length-decimal-le}
use Rattle.defmt_hints.proofs.Places.{four_more}
use Rattle.defmt_hints.proofs.numbers.digit_count.Goals as goal

pub overflow_add-count : goal.overflow_add-count
overflow_add-count c =
    let few : length (decimal c.args.number) ≤ 20 = length-decimal-le 20 c.args.number (omega arith) (omega arith) (omega arith) in
    omega (arith, few, c.digits.invariant)

pub digits-preserved : goal.digits-preserved
digits-preserved c = omega (arith, c.digits.invariant, four_more c.digits.rest (omega arith) (omega arith))

pub overflow_add-result : goal.overflow_add-result
overflow_add-result c =
    let few : length (decimal c.args.number) ≤ 20 = length-decimal-le 20 c.args.number (omega arith) (omega arith) (omega arith) in
    omega (arith, few, c.digits.invariant, c.short_count.ensures)
