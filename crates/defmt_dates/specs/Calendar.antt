-- The Gregorian calendar (ISO 8601-1, "calendar date").
use Rattle.std.specs.Prelude.{ℕ, zero, suc, ◌+◌, ◌-◌, ◌%◌, Bool, not, ◌&&◌, ◌||◌, ◌==◌, nat_lt, if◌then◌else◌, List, [], ◌∷◌, sum}

-- each fourth year, but of the centuries only each fourth
abbrev pub is_leap : ℕ → Bool
is_leap year = year % 4 == 0 && (not (year % 100 == 0) || year % 400 == 0)

-- the days of the months from January on
abbrev pub month_days : Bool → List ℕ
month_days leap = 31 ∷ (if leap then 29 else 28) ∷ 31 ∷ 30 ∷ 31 ∷ 30 ∷ 31 ∷ 31 ∷ 30 ∷ 31 ∷ 30 ∷ 31 ∷ []

abbrev pub year_days : ℕ → ℕ
year_days year = sum (month_days (is_leap year))

-- a year or a month, and the days of it that are over
pub record Within : Type 0 where
  pub number : ℕ
  pub over : ℕ

-- So many days after the beginning of a year: they are over in this year, where it has more days, or else in one of the years behind it, of which not more than so many are looked at.
unfoldable pub year_after : ℕ → ℕ → ℕ → Within
year_after zero year days = record { number = year; over = days }
year_after (suc more) year days =
    if nat_lt days (year_days year) then record { number = year; over = days } else year_after more (year + 1) (days - year_days year)

-- the same of the months with these days
unfoldable pub month_after : List ℕ → ℕ → ℕ → Within
month_after [] month days = record { number = month; over = days }
month_after (long ∷ others) month days =
    if nat_lt days long then record { number = month; over = days } else month_after others (month + 1) (days - long)

pub record Date : Type 0 where
  pub year : ℕ
  pub month : ℕ
  pub day : ℕ

-- the date so many days after 1970-01-01; its year is 10000 where it lies in that one or behind it
unfoldable pub date_after : ℕ → Date
date_after days =
    let y = year_after (10000 - 1970) 1970 days in
    let m = month_after (month_days (is_leap y.number)) 1 y.over in
    record { year = y.number; month = m.number; day = m.over + 1 }
