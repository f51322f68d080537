-- One step through a text, for private clauses.
use Rattle.std.specs.Prelude.{◌≡◌, ◌≤◌, ◌<◌, ◌==◌, ◌&&◌, ℕ, Bool, not, nat_le, nat_lt, List, ◌++◌, length, drop, slice_index}
use Rattle.defmt_forms.specs.Terminal.{is_control, is_upper_control, tame}

-- in JSON a byte needs no escape
abbrev pub is_bare : ℕ → Bool
is_bare byte = not (nat_lt byte 32) && (not (byte == 34) && not (byte == 92))

-- any byte but this
abbrev pub is_other : ℕ → ℕ → Bool
is_other one byte = not (byte == one)

-- a character of ASCII and no control character
abbrev pub is_printable : ℕ → Bool
is_printable byte = nat_le 32 byte && nat_lt byte 127

-- a byte from the space on that is no control character and begins none of two bytes
abbrev pub is_quiet : ℕ → Bool
is_quiet byte = not (nat_lt byte 32) && (not (byte == 127) && not (byte == 194))

-- a byte that is no control character and begins none of two bytes
abbrev pub is_plain : ℕ → Bool
is_plain byte = not (is_control byte) && not (byte == 194)

-- a text begins with one of the characters 80 to 9f
abbrev pub begins_upper : List ℕ → Bool
begins_upper text = nat_le 2 (length text) && is_upper_control (slice_index text 0) (slice_index text 1)

-- what stands for so many bytes at the front of a text was appended
pub record Tames (old new text : List ℕ) (count : ℕ) : Type 0 where
  pub some : 0 < count
  pub within : count ≤ length text
  pub appended : new ++ tame (drop count text) ≡ old ++ tame text
