use Rattle.std.proofs.Common.{◌≡◌, ◌+◌, ◌<◌, length, drop, refl, sym, ap, ◌∙◌, arith}
use Rattle.defmt_dates.specs.Calendar.{month_days, month_after}
use Rattle.defmt_dates.proofs.MonthLaws.{month_more, month_here, month_behind, twelve}
use Rattle.defmt_dates.proofs.calendar.month_of.Goals as goal

pub loop-month-init : goal.loop-month-init
loop-month-init c = record { same = refl; few = omega arith }

pub loop-month-preserved : goal.loop-month-preserved
loop-month-preserved c =
    let l = c.loop-month in
    let within : l.month < length (month_days c.args.leap) = omega (arith, twelve c.args.leap) in
    record {
      same = sym (month_more (month_days c.args.leap) l.month (l.month + 1) l.rest _ within c.month_length-length.ensures (omega arith)) ∙ l.invariant.same;
      few = omega (arith, l.invariant.few);
    }

pub returns-then-rest-length : goal.returns-then-rest-length
returns-then-rest-length c =
    let l = c.loop-month in
    let within : l.month < length (month_days c.args.leap) = omega (arith, twelve c.args.leap) in
    let is = sym l.invariant.same ∙ month_here (month_days c.args.leap) l.month (l.month + 1) l.rest _ within c.month_length-length.ensures c.if-rest-length.true in
    (sym (ap (λ w. w.number) is), sym (ap (λ w. w.over + 1) is))

pub returns : goal.returns
returns c =
    let l = c.loop-month in
    let all : l.month ≡ 12 = omega arith in
    let is = sym l.invariant.same ∙ ap (λ m. month_after (drop m (month_days c.args.leap)) (m + 1) l.rest) all ∙ month_behind c.args.leap 13 l.rest in
    (sym (ap (λ w. w.number) is), sym (ap (λ w. w.over + 1) is))
