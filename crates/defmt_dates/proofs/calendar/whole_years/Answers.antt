use Rattle.std.proofs.Common.{◌+◌, ◌*◌, ◌/◌, ◌≤◌, refl, arith}
use Rattle.defmt_dates.specs.Years.{days_of_years}
use Rattle.defmt_dates.proofs.YearLaws.{by_mean, years_told, last_days}
use Rattle.defmt_dates.proofs.calendar.whole_years.Goals as goal

pub returns-then-days_of_years-days : goal.returns-then-days_of_years-days
returns-then-days_of_years-days c =
    let n = c.args.days * 400 / 146097 in
    let mean = by_mean c.args.days n refl in
    let from : days_of_years (n + 1) ≤ c.args.days = omega (arith, c.days_of_years.ensures, c.if-days_of_years-days.true) in
    let most = years_told c.args.days 9998 (n + 1) from (omega (arith, last_days, c.requires)) in
    (from, mean.1, omega (arith, most))

pub returns-else-days_of_years-days : goal.returns-else-days_of_years-days
returns-else-days_of_years-days c =
    let n = c.args.days * 400 / 146097 in
    let mean = by_mean c.args.days n refl in
    let most = years_told c.args.days 9998 n mean.0 (omega (arith, last_days, c.requires)) in
    (mean.0, omega (arith, c.days_of_years.ensures, c.if-days_of_years-days.false), omega (arith, most))
