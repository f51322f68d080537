-- Values without values inside: the first cause for which they don't fit a slot.
use Rattle.std.specs.Prelude.{ℕ, pos, true, false, Result, Ok, Err}
use Rattle.defmt_grammar.specs.declared.kind.Kind.TheVariants as kinds
use Rattle.defmt_grammar.specs.declared.slot.Slot.{Slot}
use Rattle.defmt_grammar.specs.declared.slot.Slot.TheVariants as slots
use Rattle.defmt_spelling.specs.Meaning.{negated, nearest_bits}
use Rattle.defmt_values.specs.Scan.{◌>>=◌, uint_cause, int_cause, bits_cause, float_cause, count_cause}

abbrev pub NotFloat : Slot → Type 0
NotFloat (slots.One (kinds.Float size)) = ⊥
NotFloat slot = Unit {0}

-- decimal digits
abbrev pub decimal_cause : Slot → ℕ → Result (Unit {0}) ℕ
decimal_cause (slots.One (kinds.Int size)) n = int_cause (slots.One (kinds.Int size)) (pos n)
decimal_cause (slots.Bits first width) n = bits_cause (slots.Bits first width) n
decimal_cause (slots.One (kinds.Float size)) n =
    float_cause (slots.One (kinds.Float size)) (nearest_bits size false n)
decimal_cause slot n = uint_cause slot n

abbrev pub hexadecimal_cause : Slot → ℕ → Result (Unit {0}) ℕ
hexadecimal_cause (slots.Bits first width) n = bits_cause (slots.Bits first width) n
hexadecimal_cause (slots.One (kinds.Float size)) n = float_cause (slots.One (kinds.Float size)) n
hexadecimal_cause slot n = uint_cause slot n

-- decimal digits behind `-`
abbrev pub negative_cause : Slot → ℕ → Result (Unit {0}) ℕ
negative_cause (slots.One (kinds.Float size)) n =
    float_cause (slots.One (kinds.Float size)) (nearest_bits size true n)
negative_cause slot n = int_cause slot (negated n)

-- a list without elements
abbrev pub empty_cause : Slot → Result (Unit {0}) ℕ
empty_cause (slots.One kinds.FormatSlice) = Ok tt
empty_cause (slots.One (kinds.FormatArray n)) = count_cause (slots.One (kinds.FormatArray n)) 0
empty_cause slot = Err 3

-- the sum behind a value without weight, or its cause
abbrev pub sum_or : Result (Unit {0}) ℕ → ℕ → Result ℕ ℕ
sum_or cause sum = cause >>= λ fits. Ok sum
