-- The texts of values are UTF-8.
use Rattle.std.proofs.Common.{◌≡◌, ◌<◌, ◌≤◌, ◌+◌, ◌-◌, ◌/◌, ◌%◌, ℕ, zero, suc, ℤ, pos, negsuc, Bool, true, false, ◌||◌, ◌&&◌, eqb, List, [], ◌∷◌, ◌++◌, length, map, get_or, Option, Some, None, refl, sym, ap, subst, arith, inl, inr, nat_lt}
use Rattle.std.proofs.lemmas.Bool.{cases_lt, eqb-true, le-ltb, ne_eqb}
use Rattle.std.proofs.lemmas.Bool.Decides.{nat_tests}
use Rattle.std.proofs.lemmas.Str.{encode_ascii, IsUtf8-append, IsUtf8-encode, IsUtf8-from_ascii}
use Rattle.std.proofs.lemmas.Grind.{flat_map-append}
use Rattle.std.proofs.Math.Utf8.{scalar, scalars, encode, encodes}
use Rattle.std.specs.Fmt.{digit_glyph}
use Rattle.std.specs.Int.Digits.{AllBelowBase}
use Rattle.std.specs.List.{flat_map}
use Rattle.std.specs.Prelude.{replicate, codes, is_some, unwrap_or, nat_le, encode_utf8, if◌then◌else◌}
use Rattle.std.specs.Str.{IsUtf8}
use Rattle.defmt_grammar.specs.declared.hint.Base.{Base}
use Rattle.defmt_grammar.specs.declared.hint.Base.TheVariants.{Hex, HexUpper, Binary, Octal}
use Rattle.defmt_grammar.specs.declared.hint.Hint.{Hint}
use Rattle.defmt_grammar.specs.declared.hint.Hint.TheVariants.{Plain, Debug, Radix, Ascii, Micros, Millis, Iso, Clock, Pad}
use Rattle.defmt_grammar.specs.declared.kind.FloatSize.{FloatSize}
use Rattle.defmt_grammar.specs.declared.kind.IntSize.{IntSize}
use Rattle.defmt_grammar.specs.Sizes.{size_bits}
use Rattle.defmt_hints.proofs.AsciiTexts.{AreAscii, ascii_append, ascii_zeros, glyph_is_ascii}
use Rattle.defmt_hints.proofs.DigitsLaws.{are_digits}
use Rattle.defmt_hints.proofs.ShortTexts.{short_clock, short_date, short_float}
use Rattle.defmt_hints.specs.Digits.{digits, number_text, zero_filled}
use Rattle.defmt_hints.specs.Escapes.{escape_of, escaped, quoted_text, byte_escape_of, byte_escaped, byte_text}
use Rattle.defmt_hints.specs.Printed.{base_number, is_upper, prefix_text, radix_text, decimal_text, fraction_text, padded_text, signed_text, twos_complement, printed_float, printed_uint, printed_int, printed_bool, printed_char, printed_str, list_text, parted, printed_byte, printed_bytes}

ascii_at : (cs : List ℕ) → AreAscii cs → (i : ℕ) → get_or cs i 0 < 128
ascii_at [] h i = omega arith
ascii_at (c ∷ cs) h zero = h.0
ascii_at (c ∷ cs) h (suc i) = ascii_at cs h.1 i

pub utf8_ascii : (bs : List ℕ) → AreAscii bs → IsUtf8 bs
utf8_ascii bs h = IsUtf8-from_ascii bs (ascii_at bs h)

-- ---- numbers

ascii_glyphs : (base : ℕ) (upper : Bool) (ds : List ℕ) → base ≤ 16 → AllBelowBase base ds → AreAscii (map (digit_glyph upper) ds)
ascii_glyphs base upper [] le h = tt
ascii_glyphs base upper (d ∷ ds) le h = (glyph_is_ascii upper d (omega (arith, h.0)), ascii_glyphs base upper ds le h.1)

ascii_number : (base n : ℕ) (upper : Bool) → 2 ≤ base → base ≤ 16 → AreAscii (number_text base upper n)
unfolding number_text
ascii_number base n upper two most = ascii_glyphs base upper (digits base n) most (are_digits base n two).below

ascii_filled : (width : ℕ) (text : List ℕ) → AreAscii text → AreAscii (zero_filled width text)
unfolding zero_filled
ascii_filled width text h = ascii_append (replicate (width - length text) 48) text (ascii_zeros (width - length text)) h

ascii_decimal : (n : ℕ) → AreAscii (decimal_text n)
ascii_decimal n = ascii_number 10 n false (omega arith) (omega arith)

ascii_prefix : (base : Base) (alt : Bool) → AreAscii (prefix_text base alt)
ascii_prefix Hex true = (omega arith, (omega arith, tt))
ascii_prefix HexUpper true = (omega arith, (omega arith, tt))
ascii_prefix Binary true = (omega arith, (omega arith, tt))
ascii_prefix Octal true = (omega arith, (omega arith, tt))
ascii_prefix base false = tt

ascii_in_base : (base : Base) (n : ℕ) → AreAscii (number_text (base_number base) (is_upper base) n)
ascii_in_base Hex n = ascii_number 16 n false (omega arith) (omega arith)
ascii_in_base HexUpper n = ascii_number 16 n true (omega arith) (omega arith)
ascii_in_base Binary n = ascii_number 2 n false (omega arith) (omega arith)
ascii_in_base Octal n = ascii_number 8 n false (omega arith) (omega arith)

ascii_radix : (base : Base) (alt : Bool) (width n : ℕ) → AreAscii (radix_text base alt width n)
unfolding radix_text
ascii_radix base alt width n = ascii_append (prefix_text base alt) _ (ascii_prefix base alt) (ascii_filled (width - length (prefix_text base alt)) _ (ascii_in_base base n))

ascii_fraction : (unit places n : ℕ) → AreAscii (fraction_text unit places n)
unfolding fraction_text
ascii_fraction unit places n = ascii_append (decimal_text (n / unit)) _ (ascii_decimal (n / unit)) (omega arith, ascii_filled places (decimal_text (n % unit)) (ascii_decimal (n % unit)))

ascii_uint : (n : ℕ) (hint : Hint) → AreAscii (printed_uint n hint)
unfolding printed_uint
ascii_uint n Plain = ascii_decimal n
ascii_uint n Debug = ascii_decimal n
ascii_uint n (Radix base alt width) = ascii_radix base alt width n
ascii_uint n Ascii = ascii_decimal n
ascii_uint n Micros = ascii_fraction 1000000 6 n
ascii_uint n Millis = ascii_fraction 1000 3 n
ascii_uint n (Iso unit) = (short_date unit n).ascii
ascii_uint n (Clock unit) = (short_clock unit n).ascii
ascii_uint n (Pad width) = ascii_filled width (decimal_text n) (ascii_decimal n)

pub utf8_uint : (n : ℕ) (hint : Hint) → IsUtf8 (printed_uint n hint)
utf8_uint n hint = utf8_ascii (printed_uint n hint) (ascii_uint n hint)

ascii_signed : (z : ℤ) → AreAscii (signed_text z)
ascii_signed (pos n) = ascii_decimal n
ascii_signed (negsuc n) = (omega arith, ascii_decimal (suc n))

ascii_padded : (width : ℕ) (z : ℤ) → AreAscii (padded_text width z)
ascii_padded width (pos n) = ascii_filled width (decimal_text n) (ascii_decimal n)
ascii_padded width (negsuc n) = (omega arith, ascii_filled (width - 1) (decimal_text (suc n)) (ascii_decimal (suc n)))

ascii_int : (z : ℤ) (size : IntSize) (hint : Hint) → AreAscii (printed_int z size hint)
unfolding printed_int
ascii_int z size Plain = ascii_signed z
ascii_int z size Debug = ascii_signed z
ascii_int z size (Radix base alt width) = ascii_radix base alt width (twos_complement (size_bits size) z)
ascii_int z size Ascii = ascii_signed z
ascii_int z size Micros = ascii_signed z
ascii_int z size Millis = ascii_signed z
ascii_int z size (Iso unit) = ascii_signed z
ascii_int z size (Clock unit) = ascii_signed z
ascii_int z size (Pad width) = ascii_padded width z

pub utf8_int : (z : ℤ) (size : IntSize) (hint : Hint) → IsUtf8 (printed_int z size hint)
utf8_int z size hint = utf8_ascii (printed_int z size hint) (ascii_int z size hint)

pub utf8_float : (size : FloatSize) (bits : ℕ) → IsUtf8 (printed_float size bits)
utf8_float size bits = utf8_ascii (printed_float size bits) (short_float size bits).ascii

pub utf8_bool : (b : Bool) → IsUtf8 (printed_bool b)
unfolding printed_bool
utf8_bool true = utf8_ascii (codes "true") (omega arith, (omega arith, (omega arith, (omega arith, tt))))
utf8_bool false = utf8_ascii (codes "false") (omega arith, (omega arith, (omega arith, (omega arith, (omega arith, tt)))))

-- ---- quoted texts

ascii_escape : (quote c : ℕ) (w : List ℕ) → quote < 128 → escape_of quote c ≡ Some w → AreAscii w
unfolding escape_of
ascii_escape quote c w small e = by_tests (eqb c 92) (eqb c quote) (eqb c 10) (eqb c 13) (eqb c 9) refl refl e
  where
    some_is : (a : List ℕ) → Some a ≡ Some w → AreAscii a → AreAscii w
    some_is a p h = subst AreAscii (ap (λ (o : Option (List ℕ)). unwrap_or o []) p) h

    by_tests : (b92 bq b10 b13 b9 : Bool) → eqb c 92 ≡ b92 → eqb c quote ≡ bq → (if b92 || bq then Some (92 ∷ c ∷ []) else if b10 then Some (codes "\\n") else if b13 then Some (codes "\\r") else if b9 then Some (codes "\\t") else None) ≡ Some w → AreAscii w
    by_tests true bq b10 b13 b9 x y p = some_is (92 ∷ c ∷ []) p (omega arith, (omega (arith, eqb-true c 92 x), tt))
    by_tests false true b10 b13 b9 x y p = some_is (92 ∷ c ∷ []) p (omega arith, (omega (arith, eqb-true c quote y, small), tt))
    by_tests false false true b13 b9 x y p = some_is (codes "\\n") p (omega arith, (omega arith, tt))
    by_tests false false false true b9 x y p = some_is (codes "\\r") p (omega arith, (omega arith, tt))
    by_tests false false false false true x y p = some_is (codes "\\t") p (omega arith, (omega arith, tt))
    by_tests false false false false false x y p = absurd (cc)

none_beyond : (quote c : ℕ) → quote < 128 → 128 ≤ c → escape_of quote c ≡ None
unfolding escape_of
none_beyond quote c small above = rw (ne_eqb c 92 (omega arith), ne_eqb c quote (omega arith), ne_eqb c 10 (omega arith), ne_eqb c 13 (omega arith), ne_eqb c 9 (omega arith)) refl

by_escape : (o : Option (List ℕ)) (c : ℕ) → c < 128 → ((w : List ℕ) → o ≡ Some w → AreAscii w) → AreAscii (unwrap_or o (c ∷ []))
by_escape None c lt h = (lt, tt)
by_escape (Some w) c lt h = h w refl

-- a map of bytes that changes none above ASCII keeps UTF-8
record Keeps (f : ℕ → List ℕ) : Type 0 where
  high : (b : ℕ) → 128 ≤ b → f b ≡ b ∷ []
  low : (b : ℕ) → b < 128 → AreAscii (f b)

high_by : (f : ℕ → List ℕ) (c : ℕ) (y z : Bool) → Keeps f
    → flat_map f (if y then (192 + c / 64) ∷ (128 + c % 64) ∷ [] else if z then (224 + c / 4096) ∷ (128 + c / 64 % 64) ∷ (128 + c % 64) ∷ [] else (240 + c / 262144) ∷ (128 + c / 4096 % 64) ∷ (128 + c / 64 % 64) ∷ (128 + c % 64) ∷ [])
    ≡ (if y then (192 + c / 64) ∷ (128 + c % 64) ∷ [] else if z then (224 + c / 4096) ∷ (128 + c / 64 % 64) ∷ (128 + c % 64) ∷ [] else (240 + c / 262144) ∷ (128 + c / 4096 % 64) ∷ (128 + c / 64 % 64) ∷ (128 + c % 64) ∷ [])
high_by f c true z k = rw (k.high (192 + c / 64) (omega arith), k.high (128 + c % 64) (omega arith)) refl
high_by f c false true k = rw (k.high (224 + c / 4096) (omega arith), k.high (128 + c / 64 % 64) (omega arith), k.high (128 + c % 64) (omega arith)) refl
high_by f c false false k = rw (k.high (240 + c / 262144) (omega arith), k.high (128 + c / 4096 % 64) (omega arith), k.high (128 + c / 64 % 64) (omega arith), k.high (128 + c % 64) (omega arith)) refl

high_char : (f : ℕ → List ℕ) (c : ℕ) → Keeps f → 128 ≤ c → flat_map f (encode c) ≡ encode c
unfolding encode
high_char f c k above = rw (le-ltb c 128 above) (high_by f c (nat_lt c 2048) (nat_lt c 65536) k)

mapped_char : (f : ℕ → List ℕ) (c : ℕ) → Keeps f → scalar c ≡ true → IsUtf8 (flat_map f (encode c))
mapped_char f c k s = elim (cases_lt c 128) [
  | inl lt ↦ subst (λ (bs : List ℕ). IsUtf8 (flat_map f bs)) (sym (encode_ascii c lt)) (utf8_ascii (f c ++ []) (ascii_append (f c) [] (k.low c lt) tt))
  | inr above ↦ subst IsUtf8 (sym (high_char f c k above)) (IsUtf8-encode c s)
]

both : (x y : Bool) → (x && y) ≡ true → (x ≡ true) × (y ≡ true)
both true y e = (refl, e)
both false y e = absurd (cc)

mapped_chars : (f : ℕ → List ℕ) (cs : List ℕ) → Keeps f → scalars cs ≡ true → IsUtf8 (flat_map f (encodes cs))
mapped_chars f [] k s = utf8_ascii [] tt
mapped_chars f (c ∷ cs) k s =
    let parts = both (scalar c) (scalars cs) s in
    subst IsUtf8 (sym (flat_map-append f (encode c) (encodes cs)))
    (IsUtf8-append (flat_map f (encode c)) (flat_map f (encodes cs)) (mapped_char f c k parts.0) (mapped_chars f cs k parts.1))

mapped : (f : ℕ → List ℕ) (text : List ℕ) → Keeps f → IsUtf8 text → IsUtf8 (flat_map f text)
mapped f text k u = subst (λ (bs : List ℕ). IsUtf8 (flat_map f bs)) u.1.1 (mapped_chars f u.0 k u.1.0)

escapes_keep : (quote : ℕ) → quote < 128 → Keeps (escaped quote)
escapes_keep quote small = record {
  high = λ b above. rw (none_beyond quote b small above) refl;
  low = λ b lt. by_escape (escape_of quote b) b lt (λ w e. ascii_escape quote b w small e);
}

utf8_quoted : (quote : ℕ) (text : List ℕ) → quote < 128 → IsUtf8 text → IsUtf8 (quoted_text quote text)
unfolding quoted_text
utf8_quoted quote text small u =
    IsUtf8-append (quote ∷ []) (flat_map (escaped quote) text ++ quote ∷ []) (utf8_ascii (quote ∷ []) (small, tt))
    (IsUtf8-append (flat_map (escaped quote) text) (quote ∷ []) (mapped (escaped quote) text (escapes_keep quote small) u) (utf8_ascii (quote ∷ []) (small, tt)))

pub utf8_char : (c : ℕ) (hint : Hint) → IsUtf8 (encode_utf8 c) → IsUtf8 (printed_char c hint)
unfolding printed_char
utf8_char c Plain u = u
utf8_char c Debug u = utf8_quoted 39 (encode_utf8 c) (omega arith) u
utf8_char c (Radix base alt width) u = u
utf8_char c Ascii u = u
utf8_char c Micros u = u
utf8_char c Millis u = u
utf8_char c (Iso unit) u = u
utf8_char c (Clock unit) u = u
utf8_char c (Pad width) u = u

pub utf8_str : (text : List ℕ) (hint : Hint) → IsUtf8 text → IsUtf8 (printed_str text hint)
unfolding printed_str
utf8_str text Plain u = u
utf8_str text Debug u = utf8_quoted 34 text (omega arith) u
utf8_str text (Radix base alt width) u = u
utf8_str text Ascii u = u
utf8_str text Micros u = u
utf8_str text Millis u = u
utf8_str text (Iso unit) u = u
utf8_str text (Clock unit) u = u
utf8_str text (Pad width) u = u

-- ---- lists and byte texts

ascii_flat : {A : Type 0} (f : A → List ℕ) (xs : List A) → ((x : A) → AreAscii (f x)) → AreAscii (flat_map f xs)
ascii_flat f [] h = tt
ascii_flat f (x ∷ xs) h = ascii_append (f x) (flat_map f xs) (h x) (ascii_flat f xs h)

ascii_others : (f : ℕ → List ℕ) (xs : List ℕ) → ((x : ℕ) → AreAscii (f x)) → AreAscii (flat_map (λ y. codes ", " ++ y) (map f xs))
ascii_others f [] h = tt
ascii_others f (x ∷ xs) h = (omega arith, (omega arith, ascii_append (f x) (flat_map (λ y. codes ", " ++ y) (map f xs)) (h x) (ascii_others f xs h)))

ascii_parted : (f : ℕ → List ℕ) (xs : List ℕ) → ((x : ℕ) → AreAscii (f x)) → AreAscii (parted (map f xs))
ascii_parted f [] h = tt
ascii_parted f (x ∷ xs) h = ascii_append (f x) (flat_map (λ y. codes ", " ++ y) (map f xs)) (h x) (ascii_others f xs h)

ascii_list : (f : ℕ → List ℕ) (xs : List ℕ) → ((x : ℕ) → AreAscii (f x)) → AreAscii (list_text (map f xs))
unfolding list_text
ascii_list f xs h = (omega arith, ascii_append (parted (map f xs)) (codes "]") (ascii_parted f xs h) (omega arith, tt))

by_range : (o : Option (List ℕ)) (bare : Bool) (c : ℕ) (w : List ℕ) → AreAscii w → (bare ≡ true → c < 128) → ((x : List ℕ) → o ≡ Some x → AreAscii x) → AreAscii (unwrap_or (if is_some o then o else (if bare then None else Some w)) (c ∷ []))
by_range None true c w h b s = (b refl, tt)
by_range None false c w h b s = h
by_range (Some x) bare c w h b s = s x refl

bare_small : (c : ℕ) → (nat_le 32 c && nat_le c 126) ≡ true → c < 128
bare_small c e = grind (arith, nat_tests)

ascii_byte : (c : ℕ) → AreAscii (byte_escaped c)
unfolding byte_escape_of
ascii_byte c =
    by_range (escape_of 34 c) (nat_le 32 c && nat_le c 126) c (codes "\\x" ++ zero_filled 2 (number_text 16 false c))
    (omega arith, (omega arith, ascii_filled 2 (number_text 16 false c) (ascii_number 16 c false (omega arith) (omega arith))))
    (bare_small c) (λ x e. ascii_escape 34 c x (omega arith) e)

ascii_bytes : (bytes : List ℕ) (hint : Hint) → AreAscii (printed_bytes bytes hint)
unfolding printed_bytes byte_text
ascii_bytes bytes Plain = ascii_list (printed_byte Plain) bytes ascii_decimal
ascii_bytes bytes Debug = ascii_list (printed_byte Debug) bytes ascii_decimal
ascii_bytes bytes (Radix base alt width) = ascii_list (printed_byte (Radix base alt width)) bytes (λ b. ascii_radix base alt width b)
ascii_bytes bytes Ascii = (omega arith, (omega arith, ascii_append (flat_map byte_escaped bytes) (codes "\"") (ascii_flat byte_escaped bytes ascii_byte) (omega arith, tt)))
ascii_bytes bytes Micros = ascii_list (printed_byte Micros) bytes ascii_decimal
ascii_bytes bytes Millis = ascii_list (printed_byte Millis) bytes ascii_decimal
ascii_bytes bytes (Iso unit) = ascii_list (printed_byte (Iso unit)) bytes ascii_decimal
ascii_bytes bytes (Clock unit) = ascii_list (printed_byte (Clock unit)) bytes ascii_decimal
ascii_bytes bytes (Pad width) = ascii_list (printed_byte (Pad width)) bytes ascii_decimal

pub utf8_bytes : (bytes : List ℕ) (hint : Hint) → IsUtf8 (printed_bytes bytes hint)
utf8_bytes bytes hint = utf8_ascii (printed_bytes bytes hint) (ascii_bytes bytes hint)
