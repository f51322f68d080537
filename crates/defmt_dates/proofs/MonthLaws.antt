-- The month of a day, month by month.
use Rattle.std.proofs.Common.{◌≡◌, ℕ, ◌+◌, ◌-◌, ◌<◌, ◌≤◌, Bool, true, false, List, length, get_or, drop, refl, add-one, drop-cons}
use Rattle.std.proofs.lemmas.Bool.{lt-ltb, le-ltb}
use Rattle.defmt_dates.specs.Calendar.{is_leap, month_days, month_after, year_after, date_after}

pub month_more : (xs : List ℕ) (m n days long : ℕ) → m < length xs → long ≡ get_or xs m 0 → long ≤ days → month_after (drop m xs) n days ≡ month_after (drop (m + 1) xs) (n + 1) (days - long)
unfolding month_after
month_more xs m n days long within e h = rw (add-one, drop-cons xs m 0 within, ← e, le-ltb days long h) refl

pub month_here : (xs : List ℕ) (m n days long : ℕ) → m < length xs → long ≡ get_or xs m 0 → days < long → month_after (drop m xs) n days ≡ record { number = n; over = days }
unfolding month_after
month_here xs m n days long within e h = rw (drop-cons xs m 0 within, ← e, lt-ltb days long h) refl

pub month_behind : (leap : Bool) (n days : ℕ) → month_after (drop 12 (month_days leap)) n days ≡ record { number = n; over = days }
unfolding month_after
month_behind true n days = refl
month_behind false n days = refl

pub twelve : (leap : Bool) → length (month_days leap) ≡ 12
twelve true = refl
twelve false = refl

-- the month of a date, from the days of its year
pub month_of_date : (days year over : ℕ) (leap : Bool) → (year_after 8030 1970 days).number ≡ year → (year_after 8030 1970 days).over ≡ over → leap ≡ is_leap year
    → ((month_after (month_days leap) 1 over).number ≡ (date_after days).month) × ((month_after (month_days leap) 1 over).over + 1 ≡ (date_after days).day)
unfolding date_after
month_of_date days year over leap y o l = rw (l, ← y, ← o) (refl, refl)
