-- Numbers in words.
use Rattle.std.specs.Prelude.{◌==◌, ◌&&◌, ℕ, Bool, true, List, [], ◌∷◌, codes, length, Option, Some, None, if◌then◌else◌, nat_lt, nat_le, option_and_then, slice_index}
use Rattle.std.specs.Char.{digit_value}
use Rattle.std.specs.Str.{all_ascii_digits}
use Rattle.std.specs.Str.Parse.{digits_value}
use Rattle.defmt_grammar.specs.Cut.{strip}

-- the number that decimal digits spell, where 32 bits hold it
abbrev pub numeral_in : List ℕ → Option ℕ
numeral_in text = if (nat_lt 0 (length text) && all_ascii_digits text) && nat_lt (digits_value 10 text) 4294967296
    then Some (digits_value 10 text) else None

-- the number, where it is one of these
abbrev pub within : ℕ → ℕ → ℕ → Option ℕ
within least most n = if nat_le least n && nat_le n most then Some n else None

-- a decimal number from the least to the most, without sign or leading zero
abbrev pub decimal_in : ℕ → ℕ → List ℕ → Option ℕ
decimal_in least most text = if nat_lt 1 (length text) && slice_index text 0 == 48 then None
    else option_and_then (within least most) (numeral_in text)

-- ---- hexadecimal

-- each is a digit, of either case
abbrev pub all_hexadecimal : List ℕ → Bool
all_hexadecimal [] = true
all_hexadecimal (c ∷ cs) = nat_lt (digit_value c) 16 && all_hexadecimal cs

-- the number that hexadecimal digits spell, if there are some and nothing else
abbrev pub hexadecimal_digits : List ℕ → Option ℕ
hexadecimal_digits digits = if nat_lt 0 (length digits) && all_hexadecimal digits then Some (digits_value 16 digits) else None

-- at most 8 of them
abbrev pub short_hexadecimal : List ℕ → Option ℕ
short_hexadecimal digits = if nat_le (length digits) 8 then hexadecimal_digits digits else None

-- `0x`, and then 1 to 8 of them
abbrev pub hexadecimal_in : List ℕ → Option ℕ
hexadecimal_in text = option_and_then short_hexadecimal (strip (codes "0x") text)
