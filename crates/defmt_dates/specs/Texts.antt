-- The texts of dates and times of day (ISO 8601-1, extended format, in UTC).
use Rattle.std.specs.Prelude.{ℕ, zero, suc, ◌+◌, ◌*◌, ◌/◌, ◌%◌, nat_lt, if◌then◌else◌, List, [], ◌∷◌, ◌++◌, codes, decimal}
use Rattle.defmt_dates.specs.Calendar.{date_after}

-- the last k decimal digits of a number
abbrev pub last_digits : ℕ → ℕ → List ℕ
last_digits zero n = []
last_digits (suc k) n = last_digits k (n / 10) ++ (48 + n % 10) ∷ []

-- a fraction with k digits
abbrev pub fraction : ℕ → ℕ → List ℕ
fraction k n = codes "." ++ last_digits k n

-- the seconds of a minute, an hour and a day
abbrev pub minute : ℕ
minute = 60

abbrev pub hour : ℕ
hour = 60 * minute

abbrev pub day : ℕ
day = 24 * hour

-- the hours, minutes and seconds of a day of which s seconds are over
unfoldable pub time_text : ℕ → List ℕ
time_text s = last_digits 2 (s / hour) ++ codes ":" ++ last_digits 2 (s % hour / minute) ++ codes ":" ++ last_digits 2 (s % minute)

unfoldable pub day_text : ℕ → ℕ → ℕ → List ℕ
day_text year month of_month = last_digits 4 year ++ codes "-" ++ last_digits 2 month ++ codes "-" ++ last_digits 2 of_month

-- date and time of s seconds, with the fraction of a second
unfoldable pub early_text : ℕ → List ℕ → List ℕ
early_text s rest =
    let d = date_after (s / day) in
    day_text d.year d.month d.day ++ codes "T" ++ time_text (s % day) ++ rest ++ codes "Z"

-- from the year 10000 on the number itself is printed
unfoldable pub date_time : ℕ → List ℕ → ℕ → List ℕ
date_time s rest number = if nat_lt (date_after (s / day)).year 10000 then early_text s rest else decimal number

-- seconds since 1970-01-01 00:00:00 UTC
unfoldable pub date_of_seconds : ℕ → List ℕ
date_of_seconds n = date_time n [] n

-- milliseconds since then
unfoldable pub date_of_millis : ℕ → List ℕ
date_of_millis n = date_time (n / 1000) (fraction 3 (n % 1000)) n

-- the whole days, where there are any
abbrev pub whole_days : ℕ → List ℕ
whole_days s = if nat_lt s day then [] else decimal (s / day) ++ codes ":"

-- s seconds on a clock
unfoldable pub clock_of_seconds : ℕ → List ℕ
clock_of_seconds s = whole_days s ++ time_text (s % day)

unfoldable pub clock_of_millis : ℕ → List ℕ
clock_of_millis n = clock_of_seconds (n / 1000) ++ fraction 3 (n % 1000)

unfoldable pub clock_of_micros : ℕ → List ℕ
clock_of_micros n = clock_of_seconds (n / 1000000) ++ fraction 6 (n % 1000000)
