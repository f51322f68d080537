-- The printed text of a value under a hint, case by case: the display hints of the defmt book, with the texts of Rust's
-- formatting. A text is the list of its UTF-8 bytes.
use Rattle.std.specs.Prelude.{◌-◌, ◌/◌, ◌%◌, ◌^◌, ℕ, suc, ℤ, pos, negsuc, Bool, true, false, List, [], ◌∷◌, ◌++◌, length, map, codes, encode_utf8, if◌then◌else◌}
use Rattle.std.specs.Float.Ieee.{binary32, binary64}
use Rattle.std.specs.List.{flat_map}
use Rattle.defmt_dates.specs.Texts.{date_of_seconds, date_of_millis, clock_of_seconds, clock_of_millis, clock_of_micros}
use Rattle.defmt_floats.specs.Layout.{float_text}
use Rattle.defmt_grammar.specs.declared.hint.Base.{Base}
use Rattle.defmt_grammar.specs.declared.hint.Base.TheVariants.{Hex, HexUpper, Binary, Octal}
use Rattle.defmt_grammar.specs.declared.hint.ClockUnit.{ClockUnit}
use Rattle.defmt_grammar.specs.declared.hint.ClockUnit.TheVariants as clocks
use Rattle.defmt_grammar.specs.declared.hint.Hint.{Hint}
use Rattle.defmt_grammar.specs.declared.hint.Hint.TheVariants.{Plain, Debug, Radix, Ascii, Micros, Millis, Iso, Clock, Pad}
use Rattle.defmt_grammar.specs.declared.hint.IsoUnit.{IsoUnit}
use Rattle.defmt_grammar.specs.declared.hint.IsoUnit.TheVariants as dates
use Rattle.defmt_grammar.specs.declared.kind.FloatSize.{FloatSize}
use Rattle.defmt_grammar.specs.declared.kind.FloatSize.TheVariants as floats
use Rattle.defmt_grammar.specs.declared.kind.IntSize.{IntSize}
use Rattle.defmt_grammar.specs.Sizes.{size_bits}
use Rattle.defmt_hints.specs.Digits.{number_text, zero_filled}
use Rattle.defmt_hints.specs.Escapes.{quoted_text, byte_text}

-- ---- numbers

abbrev pub decimal_text : ℕ → List ℕ
decimal_text n = number_text 10 false n

abbrev pub base_number : Base → ℕ
base_number Hex = 16
base_number HexUpper = 16
base_number Binary = 2
base_number Octal = 8

abbrev pub is_upper : Base → Bool
is_upper Hex = false
is_upper HexUpper = true
is_upper Binary = false
is_upper Octal = false

-- what `#` puts in front; that of upper-case digits is lower case too
abbrev pub base_prefix : Base → List ℕ
base_prefix Hex = codes "0x"
base_prefix HexUpper = codes "0x"
base_prefix Binary = codes "0b"
base_prefix Octal = codes "0o"

abbrev pub prefix_text : Base → Bool → List ℕ
prefix_text base true = base_prefix base
prefix_text base false = []

-- as Rust prints it: the prefix, zeros, the digits. The zeros fill up to the width, which counts the prefix.
unfoldable pub radix_text : Base → Bool → ℕ → ℕ → List ℕ
radix_text base alt width n = prefix_text base alt ++ zero_filled (width - length (prefix_text base alt)) (number_text (base_number base) (is_upper base) n)

-- the whole units, a point, and what is left in as many digits as the unit has zeros
unfoldable pub fraction_text : ℕ → ℕ → ℕ → List ℕ
fraction_text unit places n = decimal_text (n / unit) ++ (codes "." ++ zero_filled places (decimal_text (n % unit)))

-- date and time of so many units since 1970-01-01 00:00:00 UTC (ISO 8601-1)
abbrev pub date_text : IsoUnit → ℕ → List ℕ
date_text dates.Seconds n = date_of_seconds n
date_text dates.Millis n = date_of_millis n

-- so many units on a clock
abbrev pub clock_text : ClockUnit → ℕ → List ℕ
clock_text clocks.Seconds n = clock_of_seconds n
clock_text clocks.Millis n = clock_of_millis n
clock_text clocks.Micros n = clock_of_micros n

-- an unsigned number
unfoldable pub printed_uint : ℕ → Hint → List ℕ
printed_uint n Plain = decimal_text n
printed_uint n Debug = decimal_text n
printed_uint n (Radix base alt width) = radix_text base alt width n
printed_uint n Ascii = decimal_text n
printed_uint n Micros = fraction_text 1000000 6 n
printed_uint n Millis = fraction_text 1000 3 n
printed_uint n (Iso unit) = date_text unit n
printed_uint n (Clock unit) = clock_text unit n
printed_uint n (Pad width) = zero_filled width (decimal_text n)

-- a bit field: bits lo to hi - 1 of the number n
abbrev pub printed_bits : ℕ → ℕ → ℕ → Hint → List ℕ
printed_bits n lo hi hint = printed_uint (n / 2 ^ lo % 2 ^ (hi - lo)) hint

-- the number of so many bits that differs from z by 0 or by 2 ^ bits
abbrev pub twos_complement : ℕ → ℤ → ℕ
twos_complement bits (pos n) = n
twos_complement bits (negsuc n) = 2 ^ bits - suc n

abbrev pub signed_text : ℤ → List ℕ
signed_text (pos n) = decimal_text n
signed_text (negsuc n) = codes "-" ++ decimal_text (suc n)

-- zeros in front of the digits fill up to the width, which counts the `-`
abbrev pub padded_text : ℕ → ℤ → List ℕ
padded_text width (pos n) = zero_filled width (decimal_text n)
padded_text width (negsuc n) = codes "-" ++ zero_filled (width - 1) (decimal_text (suc n))

-- a signed number of a size
unfoldable pub printed_int : ℤ → IntSize → Hint → List ℕ
printed_int z size Plain = signed_text z
printed_int z size Debug = signed_text z
printed_int z size (Radix base alt width) = radix_text base alt width (twos_complement (size_bits size) z)
printed_int z size Ascii = signed_text z
printed_int z size Micros = signed_text z
printed_int z size Millis = signed_text z
printed_int z size (Iso unit) = signed_text z
printed_int z size (Clock unit) = signed_text z
printed_int z size (Pad width) = padded_text width z

-- the float of a size with these bits: the same under every hint
unfoldable pub printed_float : FloatSize → ℕ → List ℕ
printed_float floats.W32 bits = float_text binary32 bits
printed_float floats.W64 bits = float_text binary64 bits

-- ---- truth values, characters, texts

-- the same under every hint
unfoldable pub printed_bool : Bool → List ℕ
printed_bool b = if b then codes "true" else codes "false"

-- a character, as UTF-8
unfoldable pub printed_char : ℕ → Hint → List ℕ
printed_char c Plain = encode_utf8 c
printed_char c Debug = quoted_text 39 (encode_utf8 c)
printed_char c (Radix base alt width) = encode_utf8 c
printed_char c Ascii = encode_utf8 c
printed_char c Micros = encode_utf8 c
printed_char c Millis = encode_utf8 c
printed_char c (Iso unit) = encode_utf8 c
printed_char c (Clock unit) = encode_utf8 c
printed_char c (Pad width) = encode_utf8 c

unfoldable pub printed_str : List ℕ → Hint → List ℕ
printed_str text Plain = text
printed_str text Debug = quoted_text 34 text
printed_str text (Radix base alt width) = text
printed_str text Ascii = text
printed_str text Micros = text
printed_str text Millis = text
printed_str text (Iso unit) = text
printed_str text (Clock unit) = text
printed_str text (Pad width) = text

-- ---- lists and bytes

-- the elements, parted by a comma and a space
abbrev pub parted : List (List ℕ) → List ℕ
parted [] = []
parted (x ∷ xs) = x ++ flat_map (λ y. codes ", " ++ y) xs

-- a list of elements that are printed already
unfoldable pub list_text : List (List ℕ) → List ℕ
list_text xs = codes "[" ++ (parted xs ++ codes "]")

-- a byte as an element of a list: of the hints only a radix acts on it
abbrev pub printed_byte : Hint → ℕ → List ℕ
printed_byte Plain b = decimal_text b
printed_byte Debug b = decimal_text b
printed_byte (Radix base alt width) b = radix_text base alt width b
printed_byte Ascii b = decimal_text b
printed_byte Micros b = decimal_text b
printed_byte Millis b = decimal_text b
printed_byte (Iso unit) b = decimal_text b
printed_byte (Clock unit) b = decimal_text b
printed_byte (Pad width) b = decimal_text b

-- bytes: a list, or under the hint for text a byte text
unfoldable pub printed_bytes : List ℕ → Hint → List ℕ
printed_bytes bytes Plain = list_text (map (printed_byte Plain) bytes)
printed_bytes bytes Debug = list_text (map (printed_byte Debug) bytes)
printed_bytes bytes (Radix base alt width) = list_text (map (printed_byte (Radix base alt width)) bytes)
printed_bytes bytes Ascii = byte_text bytes
printed_bytes bytes Micros = list_text (map (printed_byte Micros) bytes)
printed_bytes bytes Millis = list_text (map (printed_byte Millis) bytes)
printed_bytes bytes (Iso unit) = list_text (map (printed_byte (Iso unit)) bytes)
printed_bytes bytes (Clock unit) = list_text (map (printed_byte (Clock unit)) bytes)
printed_bytes bytes (Pad width) = list_text (map (printed_byte (Pad width)) bytes)
