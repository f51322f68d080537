use Rattle.std.proofs.Common.{◌≤◌, length, ap, ◌∙◌, arith}
use Rattle.std.specs.Fmt.{decimal}
use Rattle.std.proofs.lemmas.Fmt.{length-decimal-le_wide}
use Rattle.defmt_dates.proofs.TextLaws.{early_date, late_date}
use Rattle.defmt_dates.proofs.times.date_time.Goals as goal

pub returns-then-seconds-lt-SECONDS_TO_10000 : goal.returns-then-seconds-lt-SECONDS_TO_10000
returns-then-seconds-lt-SECONDS_TO_10000 c = c.early.ensures ∙ early_date c.args.seconds c.args.number c.args.fraction.now c.if-seconds-lt-SECONDS_TO_10000.true

pub put_decimal-requires : goal.put_decimal-requires
put_decimal-requires c =
    let few : length (decimal c.args.number) ≤ 39 = length-decimal-le_wide 39 c.args.number (omega arith) (omega arith) (omega arith) in
    omega (arith, few, ap length c.new-text.ensures)

pub returns : goal.returns
returns c = rw c.new-text.ensures at c.put_decimal.ensures ∙ late_date c.args.seconds c.args.number c.args.fraction.now c.if-seconds-lt-SECONDS_TO_10000.false
