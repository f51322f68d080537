-- Parts of a text, as functions on lists.
use Rattle.std.specs.Prelude.{ℕ, Bool, nat_lt, ◌==◌, ◌&&◌, ◌||◌, not, List, [], ◌∷◌, length, Option, Some, None, if◌then◌else◌}
use Rattle.std.specs.Char.{digit_value}
use Rattle.defmt_grammar.specs.Param.{has_leading_zero}
use Rattle.defmt_shapes.specs.declared.parts.Class.{Class}
use Rattle.defmt_shapes.specs.declared.parts.Class.TheVariants.{Decimal, Hexadecimal, Word, Numbers}
use Rattle.defmt_shapes.specs.Shape.{is_word}

abbrev pub in_class : Class → ℕ → Bool
in_class Decimal c = nat_lt (digit_value c) 10
in_class Hexadecimal c = nat_lt (digit_value c) 16
in_class Word c = is_word c
in_class Numbers c = c == 32 || nat_lt (digit_value c) 10

-- the bytes in front that pass a test, and what follows them
unfoldable pub run : (ℕ → Bool) → List ℕ → List ℕ × List ℕ
run test [] = ([], [])
run test (c ∷ cs) = if test c then (c ∷ (run test cs).0, (run test cs).1) else ([], c ∷ cs)

-- what follows if there is something, or else the other answer
abbrev pub either : {A : Type 0} → Option (List ℕ) → (List ℕ → Option A) → Option A → Option A
either None f other = other
either (Some rest) f other = f rest

-- the first byte, if it is a character of its own, and what follows it
unfoldable pub first_ascii : List ℕ → Option (ℕ × List ℕ)
first_ascii [] = None
first_ascii (c ∷ cs) = if nat_lt c 128 then Some (c, cs) else None

-- whether decimal digits are a variant's number
unfoldable pub is_variant : List ℕ → Bool
is_variant digits = nat_lt 0 (length digits) && not (has_leading_zero digits)
