-- The sizes of numbers (defmt book, "Primitives").
use Rattle.std.specs.Prelude.{◌<◌, ◌-◌, ◌^◌, ℕ, ℤ, pos, negsuc, Bool, nat_lt}
use Rattle.defmt_grammar.specs.declared.kind.IntSize.{IntSize}
use Rattle.defmt_grammar.specs.declared.kind.IntSize.TheVariants.{W8, W16, W32, W64, W128, Native}
use Rattle.defmt_grammar.specs.declared.kind.FloatSize.{FloatSize}
use Rattle.defmt_grammar.specs.declared.kind.FloatSize.TheVariants as floats

-- how many bits a size has; native integers are those of a 32-bit device
abbrev pub size_bits : IntSize → ℕ
size_bits W8 = 8
size_bits W16 = 16
size_bits W32 = 32
size_bits W64 = 64
size_bits W128 = 128
size_bits Native = 32

-- how many bits and bytes a floating-point number has (IEEE 754, binary32 and binary64)
abbrev pub float_bits : FloatSize → ℕ
float_bits floats.W32 = 32
float_bits floats.W64 = 64

abbrev pub float_bytes : FloatSize → ℕ
float_bytes floats.W32 = 4
float_bytes floats.W64 = 8

-- whether a signed number has so many bits, in two's complement
abbrev pub is_signed : ℕ → ℤ → Bool
is_signed bits (pos n) = nat_lt n (2 ^ (bits - 1))
is_signed bits (negsuc n) = nat_lt n (2 ^ (bits - 1))

abbrev pub IsSigned : ℕ → ℤ → Type 0
IsSigned bits (pos n) = n < 2 ^ (bits - 1)
IsSigned bits (negsuc n) = n < 2 ^ (bits - 1)
