-- The texts of values are UTF-8.
use Rattle.std.proofs.Common.{ℕ, ℤ, Bool, true, false, [], arith}
use Rattle.std.specs.Prelude.{codes, if◌then◌else◌, nat_lt, ◌-◌, ◌/◌, ◌%◌, ◌^◌}
use Rattle.std.specs.Str.{IsUtf8}
use Rattle.defmt_eager.specs.Answers.{comma}
use Rattle.defmt_eager.specs.Show.{bits_text, float_text, int_text}
use Rattle.defmt_grammar.specs.Sizes.{size_bits, float_bits, is_signed}
use Rattle.defmt_grammar.specs.declared.hint.Hint.{Hint}
use Rattle.defmt_grammar.specs.declared.kind.FloatSize.{FloatSize}
use Rattle.defmt_grammar.specs.declared.kind.IntSize.{IntSize}
use Rattle.defmt_grammar.specs.declared.kind.Kind.{Kind}
use Rattle.defmt_grammar.specs.declared.kind.Kind.TheVariants as kinds
use Rattle.defmt_hints.proofs.Utf8Laws.{utf8_ascii, utf8_float, utf8_int, utf8_uint}
use Rattle.defmt_hints.specs.Printed.{printed_float, printed_int}

pub utf8_none : IsUtf8 []
utf8_none = utf8_ascii [] tt

sized_by : (z : ℤ) (size : IntSize) (hint : Hint) (b : Bool) → IsUtf8 (if b then printed_int z size hint else [])
sized_by z size hint true = utf8_int z size hint
sized_by z size hint false = utf8_none

pub utf8_signed : (kind : Kind) (z : ℤ) (hint : Hint) → IsUtf8 (int_text kind z hint)
utf8_signed (kinds.Int size) z hint = sized_by z size hint (is_signed (size_bits size) z)
utf8_signed kind z hint = utf8_none

pub utf8_bits : (kind : Kind) (n : ℕ) (hint : Hint) → IsUtf8 (bits_text kind n hint)
utf8_bits (kinds.Bits lo hi) n hint = utf8_uint (n / 2 ^ lo % 2 ^ (hi - lo)) hint
utf8_bits kind n hint = utf8_none

float_by : (size : FloatSize) (bits : ℕ) (b : Bool) → IsUtf8 (if b then printed_float size bits else [])
float_by size bits true = utf8_float size bits
float_by size bits false = utf8_none

pub utf8_float_text : (kind : Kind) (bits : ℕ) → IsUtf8 (float_text kind bits)
utf8_float_text (kinds.Float size) bits = float_by size bits (nat_lt bits (2 ^ float_bits size))
utf8_float_text kind bits = utf8_none

pub utf8_comma : (first : Bool) → IsUtf8 (comma first)
utf8_comma true = utf8_none
utf8_comma false = utf8_ascii (codes ", ") (omega arith, (omega arith, tt))

pub utf8_open : IsUtf8 (codes "[")
utf8_open = utf8_ascii (codes "[") (omega arith, tt)

pub utf8_close : IsUtf8 (codes "]")
utf8_close = utf8_ascii (codes "]") (omega arith, tt)

pub utf8_space : IsUtf8 (codes " ")
utf8_space = utf8_ascii (codes " ") (omega arith, tt)
