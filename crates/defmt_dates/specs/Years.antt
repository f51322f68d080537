-- Whole years since the year 1. No public clause cites this module.
use Rattle.std.specs.Prelude.{ℕ, ◌+◌, ◌-◌, ◌*◌, ◌/◌}

-- the days of the first n years: 365 each, and one more in each leap year
unfoldable pub days_of_years : ℕ → ℕ
days_of_years n = 365 * n + n / 4 + n / 400 - n / 100
