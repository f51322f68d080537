-- The digits of numbers.
use Rattle.std.specs.Prelude.{◌≡◌, ◌<◌, ◌+◌, ◌*◌, ◌-◌, ◌^◌, ℕ, List, [], ◌∷◌, ◌++◌, length, map, replicate, Bool, ◌==◌, if◌then◌else◌}
use Rattle.std.specs.Fmt.{digit_glyph}
use Rattle.std.specs.Int.Digits.{AllBelowBase, digits_of}

-- what digits stand for, the highest first: each digit by the weight of its place
abbrev pub weighted_sum : ℕ → List ℕ → ℕ
weighted_sum base [] = 0
weighted_sum base (d ∷ ds) = d * base ^ length ds + weighted_sum base ds

-- there is a digit, and the first of several is no zero
abbrev pub HasNoLeadingZero : List ℕ → Type 0
HasNoLeadingZero [] = ⊥
HasNoLeadingZero (d ∷ []) = Unit {0}
HasNoLeadingZero (d ∷ e ∷ ds) = 0 < d

-- these are the digits of n in the base
pub record AreDigits (base n : ℕ) (ds : List ℕ) : Type 0 where
  pub below : AllBelowBase base ds
  pub sum : weighted_sum base ds ≡ n
  pub no_leading_zero : HasNoLeadingZero ds

-- The digits of n in the base. They meet `AreDigits`, and no other list does: `digits_are_unique`.
unfoldable pub digits : ℕ → ℕ → List ℕ
digits base n = if n == 0 then 0 ∷ [] else digits_of base n

-- the digits as text, those above nine as letters
unfoldable pub number_text : ℕ → Bool → ℕ → List ℕ
number_text base upper n = map (digit_glyph upper) (digits base n)

-- zeros in front of a text up to a width
unfoldable pub zero_filled : ℕ → List ℕ → List ℕ
zero_filled width text = replicate (width - length text) 48 ++ text
