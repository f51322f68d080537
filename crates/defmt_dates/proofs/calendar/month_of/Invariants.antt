use Rattle.std.proofs.Common.{◌≡◌, ◌+◌, ◌≤◌, drop}
use Rattle.defmt_dates.specs.Calendar.{month_days, month_after}
use Rattle.defmt_dates.proofs.calendar.month_of.Given as goal

abbrev pub invariant-loop-month : goal.invariant-loop-month
invariant-loop-month l = record {
  same : month_after (drop l.month (month_days l.leap)) (l.month + 1) l.rest ≡ month_after (month_days l.leap) 1 l.days;
  few : l.rest ≤ l.days;
}
