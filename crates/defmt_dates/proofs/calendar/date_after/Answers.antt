use Rattle.std.proofs.Common.{◌≡◌, ◌+◌, ◌-◌, sym, ◌∙◌, arith}
use Rattle.defmt_dates.specs.Calendar.{year_after}
use Rattle.defmt_dates.proofs.MonthLaws.{month_of_date}
use Rattle.defmt_dates.proofs.YearLaws.{dated, one_year, year_of_date}
use Rattle.defmt_dates.proofs.calendar.date_after.Goals as goal

pub month_of-month-requires : goal.month_of-month-requires
month_of-month-requires c = omega (arith, one_year c.whole_years-years.result, c.days_of_years.ensures, c.whole_years-years.ensures)

pub returns-clause-date : goal.returns-clause-date
returns-clause-date c =
    let days = c.args.days in
    let q = c.whole_years-years.result in
    let y = dated days q c.requires c.whole_years-years.ensures.0 c.whole_years-years.ensures.1 in
    let over : (year_after 8030 1970 days).over ≡ 719162 + days - c.days_of_years.result = omega (arith, y.1, c.days_of_years.ensures) in
    let m = month_of_date days (q + 1) (719162 + days - c.days_of_years.result) c.is_leap.result y.0 over c.is_leap.ensures in
    (sym (year_of_date days ∙ y.0), c.month_of-month.ensures.0 ∙ m.0, c.month_of-month.ensures.1 ∙ m.1)
