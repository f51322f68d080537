-- Numbers in lines: decimal digits.
use Rattle.std.specs.Prelude.{◌≢◌, ◌≤◌, ◌<◌, ◌==◌, ◌&&◌, not, ℕ, Bool, false, nat_lt, nat_le, List, [], ◌∷◌, length, Option, Some, None, if◌then◌else◌}
use Rattle.std.specs.Str.{all_ascii_digits}
use Rattle.std.specs.Str.Parse.{digits_value}
use Rattle.defmt_grammar.specs.Cut.{IsDecimal}

-- no zero stands in front of something
abbrev pub HasNoLeadingZero : List ℕ → Type 0
HasNoLeadingZero [] = Unit {0}
HasNoLeadingZero (c ∷ []) = Unit {0}
HasNoLeadingZero (c ∷ d ∷ more) = c ≢ 48

-- a number of a setting: decimal digits without a sign or a leading zero, from low to high
pub record IsNumber (low high : ℕ) (text : List ℕ) (n : ℕ) : Type 0 where
  pub decimal : IsDecimal text n
  pub plain : HasNoLeadingZero text
  pub least : low ≤ n
  pub most : n ≤ high

-- the number of a writer: decimal digits, and which of the writers 0 to 7 they stand for, or none
abbrev pub IsWriter : List ℕ → Option ℕ → Type 0
IsWriter text (Some n) = IsDecimal text n × (n ≤ 7)
IsWriter text None = (n : ℕ) × IsDecimal text n × (7 < n)

-- ---- reading, as the code does it, on lists

-- one or more decimal digits
unfoldable pub is_digits : List ℕ → Bool
is_digits text = nat_lt 0 (length text) && all_ascii_digits text

-- a zero in front of something
unfoldable pub has_leading_zero : List ℕ → Bool
has_leading_zero [] = false
has_leading_zero (c ∷ []) = false
has_leading_zero (c ∷ d ∷ more) = c == 48

-- the number that digits stand for, where it lies from low to high
unfoldable pub within : ℕ → ℕ → List ℕ → Option ℕ
within low high text =
    if nat_le low (digits_value 10 text) && nat_le (digits_value 10 text) high
    then Some (digits_value 10 text) else None

-- a decimal number without a sign or a leading zero, from low to high
unfoldable pub number_within : ℕ → ℕ → List ℕ → Option ℕ
number_within low high text =
    if is_digits text && not (has_leading_zero text) then within low high text else None

-- digits, and which of the writers 0 to 7 they stand for
unfoldable pub writer_of : List ℕ → Option (Option ℕ)
writer_of text = if is_digits text then Some (within 0 7 text) else None
