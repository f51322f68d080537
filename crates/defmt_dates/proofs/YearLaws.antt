-- The year of a day, from the days of whole years.
use Rattle.std.proofs.Common.{◌≡◌, ℕ, zero, suc, ◌+◌, ◌-◌, ◌*◌, ◌/◌, ◌%◌, ◌<◌, ◌≤◌, Bool, true, false, eqb, inl, inr, refl, ap, ◌∙◌, arith}
use Rattle.std.proofs.lemmas.Bool.{cases_lt, lt-ltb, le-ltb, eqb-true, eqb-false}
use Rattle.defmt_dates.specs.Calendar.{year_days, year_after, date_after}
use Rattle.defmt_dates.specs.Years.{days_of_years}

year_by : (n : ℕ) (fourth century cycle : Bool) → eqb ((n + 1) % 4) 0 ≡ fourth → eqb ((n + 1) % 100) 0 ≡ century → eqb ((n + 1) % 400) 0 ≡ cycle
    → days_of_years (n + 1) ≡ days_of_years n + year_days (n + 1)
unfolding days_of_years
year_by n false b c ea eb ec = rw ea (omega (arith, eqb-false _ _ ea))
year_by n true false c ea eb ec = rw (ea, eb) (omega (arith, eqb-true _ _ ea, eqb-false _ _ eb))
year_by n true true false ea eb ec = rw (ea, eb, ec) (omega (arith, eqb-true _ _ eb, eqb-false _ _ ec))
year_by n true true true ea eb ec = rw (ea, eb, ec) (omega (arith, eqb-true _ _ ec))

-- one year more
pub year_more : (n : ℕ) → days_of_years (n + 1) ≡ days_of_years n + year_days (n + 1)
year_more n = year_by n _ _ _ refl refl refl

later : (a b : ℕ) → a < b → days_of_years a ≤ days_of_years b
unfolding days_of_years
later a b h = omega arith

pub not_earlier : (a b : ℕ) → a ≤ b → days_of_years a ≤ days_of_years b
not_earlier a b h = elim (cases_lt a b) [
  | inl l ↦ later a b l
  | inr g ↦ let e : a ≡ b = omega arith in omega (arith, ap days_of_years e)
]

-- the years that are over are told by the days
pub years_told : (days p q : ℕ) → days_of_years q ≤ days → days < days_of_years (p + 1) → q ≤ p
years_told days p q l h = elim (cases_lt p q) [
  | inl k ↦ absurd (omega (arith, not_earlier (p + 1) q (omega arith)))
  | inr g ↦ g
]

pub year_is : (more p days q : ℕ) → p ≤ q → q ≤ p + more → days_of_years q ≤ days_of_years p + days → days_of_years p + days < days_of_years (q + 1)
    → ((year_after more (p + 1) days).number ≡ q + 1) × ((year_after more (p + 1) days).over + days_of_years q ≡ days_of_years p + days)
unfolding year_after
year_is zero p days q a b l h = let e : p ≡ q = omega arith in (omega arith, omega (arith, ap days_of_years e))
year_is (suc more) p days q a b l h = elim (cases_lt days (year_days (p + 1))) [
  | inl s ↦
      let e : p ≡ q = omega (arith, years_told (days_of_years p + days) p q l (omega (arith, year_more p))) in
      rw (lt-ltb _ _ s) (omega arith, omega (arith, ap days_of_years e))
  | inr g ↦
      let k : p + 1 ≤ q = years_told (days_of_years p + days) q (p + 1) (omega (arith, year_more p)) h in
      let same : days_of_years (p + 1) + (days - year_days (p + 1)) ≡ days_of_years p + days = omega (arith, year_more p) in
      let rest = year_is more (p + 1) (days - year_days (p + 1)) q k (omega arith) (omega arith) (omega arith) in
      rw (le-ltb _ _ g) (rest.0, rest.1 ∙ same)
]

pub year_far : (more p days : ℕ) → days_of_years (p + more) ≤ days_of_years p + days → (year_after more (p + 1) days).number ≡ p + more + 1
unfolding year_after
year_far zero p days h = omega arith
year_far (suc more) p days h =
    let m = not_earlier (p + 1) (p + suc more) (omega arith) in
    let y = year_more p in
    let g : year_days (p + 1) ≤ days = omega arith in
    let same : p + 1 + more ≡ p + suc more = omega arith in
    rw (le-ltb _ _ g) (year_far more (p + 1) (days - year_days (p + 1)) (omega (arith, ap days_of_years same)) ∙ omega arith)

pub year_near : (more p days : ℕ) → days_of_years p + days < days_of_years (p + more) → (year_after more (p + 1) days).number < p + more + 1
unfolding year_after
year_near zero p days h = let e : p + 0 ≡ p = omega arith in absurd (omega (arith, ap days_of_years e))
year_near (suc more) p days h = elim (cases_lt days (year_days (p + 1))) [
  | inl s ↦ rw (lt-ltb _ _ s) (omega arith)
  | inr g ↦
      let same : p + 1 + more ≡ p + suc more = omega arith in
      let rest = year_near more (p + 1) (days - year_days (p + 1)) (omega (arith, year_more p, ap days_of_years same)) in
      rw (le-ltb _ _ g) (omega arith)
]

-- one year has not more than 366 days
pub one_year : (n : ℕ) → days_of_years (n + 1) ≤ days_of_years n + 366
unfolding days_of_years
one_year n = omega arith

-- years by the mean length of a year: 400 of them have 146,097 days
pub by_mean : (days n : ℕ) → n ≡ days * 400 / 146097 → (days_of_years n ≤ days) × (days < days_of_years (n + 1 + 1))
unfolding days_of_years
by_mean days n e = (omega arith, omega arith)

-- ---- from 1970 to the year 10000

pub first_days : days_of_years 1969 ≡ 719162
unfolding days_of_years
first_days = refl

pub last_days : days_of_years 9999 ≡ 3652059
unfolding days_of_years
last_days = refl

pub dated : (days q : ℕ) → days < 2932897 → days_of_years q ≤ 719162 + days → 719162 + days < days_of_years (q + 1)
    → ((year_after 8030 1970 days).number ≡ q + 1) × ((year_after 8030 1970 days).over + days_of_years q ≡ 719162 + days)
dated days q few l h =
    let a : 1969 ≤ q = years_told (719162 + days) q 1969 (omega (arith, first_days)) h in
    let b : q ≤ 9998 = years_told (719162 + days) 9998 q l (omega (arith, last_days)) in
    let y = year_is 8030 1969 days q a (omega arith) (omega (arith, first_days)) (omega (arith, first_days)) in
    (y.0, omega (arith, y.1, first_days))

pub year_of_date : (days : ℕ) → (date_after days).year ≡ (year_after 8030 1970 days).number
unfolding date_after
year_of_date days = refl

-- from 2,932,897 days on the year isn't below 10000
pub late : (days : ℕ) → 2932897 ≤ days → (date_after days).year ≡ 10000
late days h = year_of_date days ∙ year_far 8030 1969 days (omega (arith, first_days, last_days))

pub early : (days : ℕ) → days < 2932897 → (date_after days).year < 10000
early days h = rw (year_of_date days) (year_near 8030 1969 days (omega (arith, first_days, last_days)))
