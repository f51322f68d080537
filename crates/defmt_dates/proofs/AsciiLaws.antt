-- The texts are ASCII.
use Rattle.std.proofs.Common.{ℕ, zero, suc, ◌+◌, ◌/◌, ◌%◌, ◌^◌, ◌<◌, Bool, true, false, if◌then◌else◌, List, [], ◌∷◌, ◌++◌, codes, decimal, IsAscii, nat_lt, arith}
use Rattle.std.proofs.lemmas.Fmt.{IsAscii-decimal_wide}
use Rattle.std.proofs.lemmas.Str.{IsAscii-append}
use Rattle.std.proofs.lemmas.Str.Ascii.{IsAscii-nil, IsAscii-cons}
use Rattle.defmt_dates.specs.Calendar.{date_after}
use Rattle.defmt_dates.specs.Texts.{last_digits, fraction, time_text, day_text, early_text, date_time, date_of_seconds, date_of_millis, whole_days, clock_of_seconds, clock_of_millis, clock_of_micros}

record Ascii (xs : List ℕ) : Type 0 where
  is : IsAscii xs

none : Ascii []
none = record { is = IsAscii-nil }

one : (b : ℕ) → b < 128 → Ascii (b ∷ [])
one b h = record { is = IsAscii-cons b [] h IsAscii-nil }

more : (xs ys : List ℕ) → Ascii xs → Ascii ys → Ascii (xs ++ ys)
more xs ys a b = record { is = IsAscii-append xs ys a.is b.is }

digits_ascii : (k n : ℕ) → Ascii (last_digits k n)
digits_ascii zero n = none
digits_ascii (suc k) n = more (last_digits k (n / 10)) ((48 + n % 10) ∷ []) (digits_ascii k (n / 10)) (one (48 + n % 10) (omega arith))

fraction_ascii : (k n : ℕ) → Ascii (fraction k n)
fraction_ascii k n = more (codes ".") (last_digits k n) (one 46 (omega arith)) (digits_ascii k n)

number_ascii : (n : ℕ) → n < 2 ^ 128 → Ascii (decimal n)
number_ascii n h = record { is = IsAscii-decimal_wide n (omega arith) }

chosen : (b : Bool) (xs ys : List ℕ) → Ascii xs → Ascii ys → Ascii (if b then xs else ys)
chosen true xs ys a b = a
chosen false xs ys a b = b

-- three texts with a byte between them
three : (b : ℕ) (xs ys zs : List ℕ) → b < 128 → Ascii xs → Ascii ys → Ascii zs → Ascii (xs ++ (b ∷ []) ++ ys ++ (b ∷ []) ++ zs)
three b xs ys zs h x y z =
    let between = one b h in
    more (xs ++ (b ∷ []) ++ ys ++ (b ∷ [])) zs (more (xs ++ (b ∷ []) ++ ys) (b ∷ []) (more (xs ++ (b ∷ [])) ys (more xs (b ∷ []) x between) y) between) z

time_ascii : (s : ℕ) → Ascii (time_text s)
unfolding time_text
time_ascii s =
    three 58 (last_digits 2 (s / 3600)) (last_digits 2 (s % 3600 / 60)) (last_digits 2 (s % 60)) (omega arith) (digits_ascii 2 (s / 3600)) (digits_ascii 2 (s % 3600 / 60)) (digits_ascii 2 (s % 60))

day_ascii : (y m d : ℕ) → Ascii (day_text y m d)
unfolding day_text
day_ascii y m d = three 45 (last_digits 4 y) (last_digits 2 m) (last_digits 2 d) (omega arith) (digits_ascii 4 y) (digits_ascii 2 m) (digits_ascii 2 d)

early_ascii : (s : ℕ) (rest : List ℕ) → Ascii rest → Ascii (early_text s rest)
unfolding early_text
early_ascii s rest r =
    let d = date_after (s / 86400) in
    let front = more (day_text d.year d.month d.day) (codes "T") (day_ascii d.year d.month d.day) (one 84 (omega arith)) in
    more _ (codes "Z") (more _ rest (more _ (time_text (s % 86400)) front (time_ascii (s % 86400))) r) (one 90 (omega arith))

date_ascii : (s n : ℕ) (rest : List ℕ) → n < 2 ^ 128 → Ascii rest → Ascii (date_time s rest n)
unfolding date_time
date_ascii s n rest h r = chosen (nat_lt (date_after (s / 86400)).year 10000) (early_text s rest) (decimal n) (early_ascii s rest r) (number_ascii n h)

pub seconds_ascii : (n : ℕ) → n < 2 ^ 128 → IsAscii (date_of_seconds n)
unfolding date_of_seconds
seconds_ascii n h = (date_ascii n n [] h none).is

pub millis_ascii : (n : ℕ) → n < 2 ^ 128 → IsAscii (date_of_millis n)
unfolding date_of_millis
millis_ascii n h = (date_ascii (n / 1000) n (fraction 3 (n % 1000)) h (fraction_ascii 3 (n % 1000))).is

days_ascii : (s : ℕ) → s < 2 ^ 128 → Ascii (whole_days s)
days_ascii s h =
    let days = decimal (s / 86400) in
    chosen (nat_lt s 86400) [] (days ++ codes ":") none (more days (codes ":") (number_ascii (s / 86400) (omega arith)) (one 58 (omega arith)))

clock_ascii : (n : ℕ) → n < 2 ^ 128 → Ascii (clock_of_seconds n)
unfolding clock_of_seconds
clock_ascii n h = more (whole_days n) (time_text (n % 86400)) (days_ascii n h) (time_ascii (n % 86400))

pub clock_seconds_ascii : (n : ℕ) → n < 2 ^ 128 → IsAscii (clock_of_seconds n)
clock_seconds_ascii n h = (clock_ascii n h).is

pub clock_millis_ascii : (n : ℕ) → n < 2 ^ 128 → IsAscii (clock_of_millis n)
unfolding clock_of_millis
clock_millis_ascii n h = (more (clock_of_seconds (n / 1000)) (fraction 3 (n % 1000)) (clock_ascii (n / 1000) (omega arith)) (fraction_ascii 3 (n % 1000))).is

pub clock_micros_ascii : (n : ℕ) → n < 2 ^ 128 → IsAscii (clock_of_micros n)
unfolding clock_of_micros
clock_micros_ascii n h = (more (clock_of_seconds (n / 1000000)) (fraction 6 (n % 1000000)) (clock_ascii (n / 1000000) (omega arith)) (fraction_ascii 6 (n % 1000000))).is
