-- How long shown values are at most.
use Rattle.std.proofs.Common.{◌≡◌, ◌≤◌, ◌<◌, ◌+◌, ◌*◌, ◌-◌, ◌/◌, ◌%◌, ◌^◌, ℕ, suc, ℤ, pos, negsuc, Bool, true, false, cond, eqb, List, [], ◌∷◌, ◌++◌, length, Option, Some, None, refl, arith, length-append}
use Rattle.std.proofs.Math.Nat.{div-le_self, mod-le, pow-le-pow_left}
use Rattle.std.proofs.lemmas.Int.Digits.{length-digits_of-le}
use Rattle.std.proofs.lemmas.List.{length-map, length-replicate}
use Rattle.std.proofs.lemmas.Str.{length-encode}
use Rattle.std.specs.Fmt.{digit_glyph}
use Rattle.std.specs.List.{flat_map}
use Rattle.std.specs.Prelude.{codes, encode_utf8, unwrap_or, replicate, ◌==◌, ◌||◌, nat_lt, if◌then◌else◌}
use borrow.Author.Tests.{ltb-true}
use Rattle.defmt_grammar.specs.Sizes.{size_bits, float_bits, is_signed}
use Rattle.defmt_grammar.specs.declared.hint.Base.{Base}
use Rattle.defmt_grammar.specs.declared.hint.Base.TheVariants.{Hex, HexUpper, Binary, Octal}
use Rattle.defmt_grammar.specs.declared.hint.Hint.{Hint}
use Rattle.defmt_grammar.specs.declared.hint.Hint.TheVariants.{Plain, Debug, Radix, Ascii, Micros, Millis, Iso, Clock, Pad}
use Rattle.defmt_grammar.specs.declared.kind.FloatSize.{FloatSize}
use Rattle.defmt_grammar.specs.declared.kind.IntSize.{IntSize}
use Rattle.defmt_grammar.specs.declared.kind.IntSize.TheVariants.{W8, W16, W32, W64, W128, Native}
use Rattle.defmt_grammar.specs.declared.kind.Kind.{Kind}
use Rattle.defmt_grammar.specs.declared.kind.Kind.TheVariants as kinds
use Rattle.defmt_hints.proofs.ShortTexts.{short_clock, short_date, short_float}
use Rattle.defmt_hints.specs.Digits.{digits, zero_filled, number_text}
use Rattle.defmt_hints.specs.Escapes.{escape_of, escaped, quoted_text}
use Rattle.defmt_hints.specs.Printed.{prefix_text, base_number, is_upper, radix_text, decimal_text, fraction_text, padded_text, signed_text, twos_complement, printed_float, printed_uint, printed_int, printed_bool, printed_char, printed_str}
use Rattle.defmt_eager.specs.Answers.{most_bytes}
use Rattle.defmt_eager.specs.Show.{int_text, bits_text, float_text}

-- ---- digits

digits_by : (base n : ℕ) (b : Bool) → eqb n 0 ≡ b → 2 ≤ base → n < 2 ^ 128 → length (digits base n) ≤ 128
unfolding digits
digits_by base n true e two lt = rw e (omega arith)
digits_by base n false e two lt = rw e (let k : 2 ^ 128 ≤ base ^ 128 = pow-le-pow_left two 128 in length-digits_of-le base 128 n two (omega arith))

pub number : (base n : ℕ) (upper : Bool) → 2 ≤ base → n < 2 ^ 128 → length (number_text base upper n) ≤ 128
unfolding number_text
number base n upper two lt = omega (arith, length-map (digits base n) (digit_glyph upper), digits_by base n (eqb n 0) refl two lt)

pub filled : (width : ℕ) (text : List ℕ) → length (zero_filled width text) ≤ width + length text
unfolding zero_filled
filled width text = omega (arith, length-append (replicate (width - length text) 48) text, length-replicate {A = ℕ} (width - length text) 48)

two_or_more : (base : Base) → 2 ≤ base_number base
two_or_more Hex = omega arith
two_or_more HexUpper = omega arith
two_or_more Binary = omega arith
two_or_more Octal = omega arith

prefix : (base : Base) (alt : Bool) → length (prefix_text base alt) ≤ 2
prefix Hex true = omega arith
prefix HexUpper true = omega arith
prefix Binary true = omega arith
prefix Octal true = omega arith
prefix base false = omega arith

pub radix : (base : Base) (alt : Bool) (width n : ℕ) → n < 2 ^ 128 → length (radix_text base alt width n) ≤ 130 + width
unfolding radix_text
radix base alt width n lt =
    let front : List ℕ = prefix_text base alt in
    let text : List ℕ = number_text (base_number base) (is_upper base) n in
    omega (arith, length-append front (zero_filled (width - length front) text), filled (width - length front) text, prefix base alt, number (base_number base) n (is_upper base) (two_or_more base) lt)

pub decimal : (n : ℕ) → n < 2 ^ 128 → length (decimal_text n) ≤ 128
decimal n lt = number 10 n false (omega arith) lt

fraction : (unit places n : ℕ) → places ≤ 6 → n < 2 ^ 128 → length (fraction_text unit places n) ≤ 300
unfolding fraction_text
fraction unit places n few lt =
    let whole : List ℕ = decimal_text (n / unit) in
    let part : List ℕ = zero_filled places (decimal_text (n % unit)) in
    omega (
      arith,
      length-append whole (codes "." ++ part),
      length-append (codes ".") part,
      filled places (decimal_text (n % unit)),
      decimal (n / unit) (omega (arith, div-le_self n unit)),
      decimal (n % unit) (omega (arith, mod-le n unit)),
      few,
    )

-- ---- numbers

pub uint_most : (n : ℕ) (hint : Hint) → n < 2 ^ 128 → length (printed_uint n hint) ≤ most_bytes hint
unfolding printed_uint
uint_most n Plain lt = omega (arith, decimal n lt)
uint_most n Debug lt = omega (arith, decimal n lt)
uint_most n (Radix base alt width) lt = omega (arith, radix base alt width n lt)
uint_most n Ascii lt = omega (arith, decimal n lt)
uint_most n Micros lt = fraction 1000000 6 n (omega arith) lt
uint_most n Millis lt = fraction 1000 3 n (omega arith) lt
uint_most n (Iso unit) lt = omega (arith, (short_date unit n).few)
uint_most n (Clock unit) lt = omega (arith, (short_clock unit n).few)
uint_most n (Pad width) lt = omega (arith, filled width (decimal_text n), decimal n lt)

pub bits_most : (kind : Kind) (n : ℕ) (hint : Hint) → n < 2 ^ 128 → length (bits_text kind n hint) ≤ most_bytes hint
bits_most (kinds.Bits lo hi) n hint lt =
    uint_most (n / 2 ^ lo % 2 ^ (hi - lo)) hint (omega (arith, mod-le (n / 2 ^ lo) (2 ^ (hi - lo)), div-le_self n (2 ^ lo)))
bits_most kind n hint lt = omega arith

-- a number of so many bits
abbrev Small : ℤ → Type 0
Small (pos n) = n < 2 ^ 127
Small (negsuc n) = n < 2 ^ 127

half : (size : IntSize) → 2 ^ (size_bits size - 1) ≤ 2 ^ 127
half W8 = omega arith
half W16 = omega arith
half W32 = omega arith
half W64 = omega arith
half W128 = omega arith
half Native = omega arith

small_of : (size : IntSize) (z : ℤ) → is_signed (size_bits size) z ≡ true → Small z
small_of size (pos n) e = omega (arith, ltb-true n (2 ^ (size_bits size - 1)) e, half size)
small_of size (negsuc n) e = omega (arith, ltb-true n (2 ^ (size_bits size - 1)) e, half size)

complement : (size : IntSize) (n : ℕ) → 2 ^ size_bits size - suc n < 2 ^ 128
complement W8 n = omega arith
complement W16 n = omega arith
complement W32 n = omega arith
complement W64 n = omega arith
complement W128 n = omega arith
complement Native n = omega arith

complement_of : (size : IntSize) (z : ℤ) → Small z → twos_complement (size_bits size) z < 2 ^ 128
complement_of size (pos n) lt = omega arith
complement_of size (negsuc n) lt = complement size n

signed : (z : ℤ) → Small z → length (signed_text z) ≤ 300
signed (pos n) lt = omega (arith, decimal n (omega arith))
signed (negsuc n) lt = omega (arith, length-append (codes "-") (decimal_text (suc n)), decimal (suc n) (omega arith))

padded : (width : ℕ) (z : ℤ) → Small z → length (padded_text width z) ≤ 300 + width
padded width (pos n) lt = omega (arith, filled width (decimal_text n), decimal n (omega arith))
padded width (negsuc n) lt = omega (arith, length-append (codes "-") (zero_filled (width - 1) (decimal_text (suc n))), filled (width - 1) (decimal_text (suc n)), decimal (suc n) (omega arith))

sized : (z : ℤ) (size : IntSize) (hint : Hint) → Small z → length (printed_int z size hint) ≤ most_bytes hint
unfolding printed_int
sized z size Plain lt = signed z lt
sized z size Debug lt = signed z lt
sized z size (Radix base alt width) lt = omega (arith, radix base alt width (twos_complement (size_bits size) z) (complement_of size z lt))
sized z size Ascii lt = signed z lt
sized z size Micros lt = signed z lt
sized z size Millis lt = signed z lt
sized z size (Iso unit) lt = signed z lt
sized z size (Clock unit) lt = signed z lt
sized z size (Pad width) lt = padded width z lt

sized_by : (z : ℤ) (size : IntSize) (hint : Hint) (b : Bool) → is_signed (size_bits size) z ≡ b → length (if b then printed_int z size hint else []) ≤ most_bytes hint
sized_by z size hint true e = sized z size hint (small_of size z e)
sized_by z size hint false e = omega arith

pub int_most : (kind : Kind) (z : ℤ) (hint : Hint) → length (int_text kind z hint) ≤ most_bytes hint
int_most (kinds.Int size) z hint = sized_by z size hint (is_signed (size_bits size) z) refl
int_most kind z hint = omega arith

-- ---- truth values, characters and texts

least : (hint : Hint) → 300 ≤ most_bytes hint
least Plain = omega arith
least Debug = omega arith
least (Radix base alt width) = omega arith
least Ascii = omega arith
least Micros = omega arith
least Millis = omega arith
least (Iso unit) = omega arith
least (Clock unit) = omega arith
least (Pad width) = omega arith

float_by : (b : Bool) (size : FloatSize) (bits : ℕ) → length (if b then printed_float size bits else []) ≤ 300
float_by true size bits = omega (arith, (short_float size bits).few)
float_by false size bits = omega arith

pub float_most : (kind : Kind) (bits : ℕ) (hint : Hint) → length (float_text kind bits) ≤ most_bytes hint
float_most (kinds.Float size) bits hint = omega (arith, float_by (nat_lt bits (2 ^ float_bits size)) size bits, least hint)
float_most kind bits hint = omega arith

pub flag_most : (b : Bool) (hint : Hint) → length (printed_bool b) ≤ most_bytes hint
unfolding printed_bool
flag_most true hint = omega (arith, least hint)
flag_most false hint = omega (arith, least hint)

each : (most : ℕ) (f : ℕ → List ℕ) → ((x : ℕ) → length (f x) ≤ most) → (xs : List ℕ) → length (flat_map f xs) ≤ length xs * most
each most f few [] = omega arith
each most f few (x ∷ xs) = omega (arith, few x, each most f few xs, length-append (f x) (flat_map f xs))

pub either : (most : ℕ) (b : Bool) (x y : Option (List ℕ)) (z : List ℕ) → length (unwrap_or x z) ≤ most → length (unwrap_or y z) ≤ most → length (unwrap_or (if b then x else y) z) ≤ most
either most true x y z p q = p
either most false x y z p q = q

pub two_escaped : (quote c : ℕ) → length (escaped quote c) ≤ 2
unfolding escape_of
two_escaped quote c =
    let tab : Option (List ℕ) = if c == 9 then Some (codes "\\t") else None in
    let return : Option (List ℕ) = if c == 13 then Some (codes "\\r") else tab in
    let newline : Option (List ℕ) = if c == 10 then Some (codes "\\n") else return in
    either 2 (c == 92 || c == quote) (Some (92 ∷ c ∷ [])) newline (c ∷ []) (omega arith)
    (either 2 (c == 10) (Some (codes "\\n")) return (c ∷ []) (omega arith)
    (either 2 (c == 13) (Some (codes "\\r")) tab (c ∷ []) (omega arith)
    (either 2 (c == 9) (Some (codes "\\t")) None (c ∷ []) (omega arith) (omega arith))))

quoted : (quote : ℕ) (text : List ℕ) → length (quoted_text quote text) ≤ length text * 2 + 2
unfolding quoted_text
quoted quote text = omega (arith, each 2 (escaped quote) (two_escaped quote) text, length-append (flat_map (escaped quote) text) (quote ∷ []))

pub str_most : (text : List ℕ) (hint : Hint) → length (printed_str text hint) ≤ length text * 2 + 3
unfolding printed_str
str_most text Plain = omega arith
str_most text Debug = omega (arith, quoted 34 text)
str_most text (Radix base alt width) = omega arith
str_most text Ascii = omega arith
str_most text Micros = omega arith
str_most text Millis = omega arith
str_most text (Iso unit) = omega arith
str_most text (Clock unit) = omega arith
str_most text (Pad width) = omega arith

four : (a b d : Bool) → cond a 1 (cond b 2 (cond d 3 4)) ≤ 4
four true b d = omega arith
four false true d = omega arith
four false false true = omega arith
four false false false = omega arith

encoded : (c : ℕ) → length (encode_utf8 c) ≤ 4
encoded c = omega (arith, length-encode c, four (nat_lt c 0x80) (nat_lt c 0x800) (nat_lt c 0x1_0000))

pub char_most : (c : ℕ) (hint : Hint) → length (printed_char c hint) ≤ most_bytes hint
unfolding printed_char
char_most c Plain = omega (arith, encoded c)
char_most c Debug = omega (arith, quoted 39 (encode_utf8 c), encoded c)
char_most c (Radix base alt width) = omega (arith, encoded c)
char_most c Ascii = omega (arith, encoded c)
char_most c Micros = omega (arith, encoded c)
char_most c Millis = omega (arith, encoded c)
char_most c (Iso unit) = omega (arith, encoded c)
char_most c (Clock unit) = omega (arith, encoded c)
char_most c (Pad width) = omega (arith, encoded c)

-- what bounds a value without an entry of its own
pub ruleset leaves = (uint_most, bits_most, int_most, flag_most, char_most, str_most, float_most)
