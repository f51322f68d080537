use Rattle.std.proofs.Common.{◌/◌, ◌≤◌, ◌∷◌, [], length, ap, arith, length-append}
use Rattle.std.specs.Fmt.{decimal}
use Rattle.std.proofs.lemmas.Fmt.{length-decimal-le_wide}
use Rattle.defmt_dates.proofs.clocks.whole_days.Goals as goal

pub put_decimal-requires : goal.put_decimal-requires
put_decimal-requires c =
    let few : length (decimal (c.args.seconds / 86400)) ≤ 34 = length-decimal-le_wide 34 _ (omega arith) (omega arith) (omega arith) in
    rw c.divided-days.ensures.quotient (omega (arith, few, ap length c.new-text.ensures))

pub put-requires : goal.put-requires
put-requires c =
    let few : length (decimal (c.args.seconds / 86400)) ≤ 34 = length-decimal-le_wide 34 _ (omega arith) (omega arith) (omega arith) in
    let long = ap length (rw (c.new-text.ensures, c.divided-days.ensures.quotient) at c.put_decimal.ensures) in
    omega (arith, few, long)

pub returns-clause-short : goal.returns-clause-short
returns-clause-short c =
    let few : length (decimal (c.args.seconds / 86400)) ≤ 34 = length-decimal-le_wide 34 _ (omega arith) (omega arith) (omega arith) in
    let long = ap length (rw (c.new-text.ensures, c.divided-days.ensures.quotient) at c.put_decimal.ensures) in
    omega (arith, few, long, ap length c.put.ensures, length-append c.put_decimal.new.text.items (58 ∷ []))
