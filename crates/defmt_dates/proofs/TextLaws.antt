-- The texts of dates, digit by digit.
use Rattle.std.proofs.Common.{◌≡◌, ℕ, ◌+◌, ◌/◌, ◌%◌, ◌<◌, ◌≤◌, List, [], ◌∷◌, ◌++◌, codes, decimal, refl, ap, ◌∙◌, arith}
use Rattle.std.proofs.lemmas.Bool.{lt-ltb}
use Rattle.defmt_dates.specs.Calendar.{date_after}
use Rattle.defmt_dates.specs.Texts.{fraction, time_text, day_text, early_text, date_time, whole_days, clock_of_seconds}
use Rattle.defmt_dates.proofs.YearLaws.{early, late}

abbrev digit : ℕ → ℕ
digit n = 48 + n % 10

pub three_digits : (n : ℕ) → 46 ∷ digit (n / 100) ∷ digit (n / 10) ∷ digit n ∷ [] ≡ fraction 3 n
three_digits n = let a : n / 100 ≡ n / 10 / 10 = omega arith in rw a refl

pub six_digits : (n : ℕ) → 46 ∷ digit (n / 100000) ∷ digit (n / 10000) ∷ digit (n / 1000) ∷ digit (n / 100) ∷ digit (n / 10) ∷ digit n ∷ [] ≡ fraction 6 n
six_digits n =
    let a : n / 100 ≡ n / 10 / 10 = omega arith in
    let b : n / 1000 ≡ n / 10 / 10 / 10 = omega arith in
    let c : n / 10000 ≡ n / 10 / 10 / 10 / 10 = omega arith in
    let d : n / 100000 ≡ n / 10 / 10 / 10 / 10 / 10 = omega arith in
    rw (a, b, c, d) refl

pub day_digits : (y m d : ℕ) → digit (y / 1000) ∷ digit (y / 100) ∷ digit (y / 10) ∷ digit y ∷ 45 ∷ digit (m / 10) ∷ digit m ∷ 45 ∷ digit (d / 10) ∷ digit d ∷ [] ≡ day_text y m d
unfolding day_text
day_digits y m d =
    let a : y / 100 ≡ y / 10 / 10 = omega arith in
    let b : y / 1000 ≡ y / 10 / 10 / 10 = omega arith in
    rw (a, b) refl

pub time_digits : (s : ℕ) → digit (s / 3600 / 10) ∷ digit (s / 3600) ∷ 58 ∷ digit (s % 3600 / 60 / 10) ∷ digit (s % 3600 / 60) ∷ 58 ∷ digit (s % 60 / 10) ∷ digit (s % 60) ∷ [] ≡ time_text s
unfolding time_text
time_digits s = refl

-- one text appended behind another
pub grown : (a b : List ℕ) {mid new : List ℕ} → mid ≡ a → new ≡ mid ++ b → new ≡ a ++ b
grown a b p q = q ∙ ap (λ (t : List ℕ). t ++ b) p

pub early_is : (s y m d : ℕ) (rest : List ℕ) → y ≡ (date_after (s / 86400)).year → m ≡ (date_after (s / 86400)).month → d ≡ (date_after (s / 86400)).day
    → day_text y m d ++ codes "T" ++ time_text (s % 86400) ++ rest ++ codes "Z" ≡ early_text s rest
unfolding early_text
early_is s y m d rest a b c = rw (a, b, c) refl

pub clock_is : (s : ℕ) → whole_days s ++ time_text (s % 86400) ≡ clock_of_seconds s
unfolding clock_of_seconds
clock_is s = refl

pub early_date : (s number : ℕ) (rest : List ℕ) → s < 253402300800 → early_text s rest ≡ date_time s rest number
unfolding date_time
early_date s number rest h =
    let e : (date_after (s / 86400)).year < 10000 = early (s / 86400) (omega arith) in
    rw (lt-ltb _ 10000 e) refl

pub late_date : (s number : ℕ) (rest : List ℕ) → 253402300800 ≤ s → decimal number ≡ date_time s rest number
unfolding date_time
late_date s number rest h = rw (late (s / 86400) (omega arith)) refl
