-- Digits and texts that are read as floats.
use Rattle.std.proofs.Common.{◌≡◌, ◌*◌, ◌^◌, ℕ, Bool, false, List, [], ◌++◌, length, Option, Some, None, unwrap_or, refl, sym, ap, ◌∙◌, arith, append-nil}
use Rattle.std.proofs.lemmas.Float.Parse.{scan_numeral-text_of}
use Rattle.std.specs.Float.Numeral.{Parts, IsWellFormed, scan_numeral, nearest_float}
use Rattle.std.specs.Float.Parse.{parse_float}
use Rattle.std.specs.Str.Parse.{digits_value}
use lib.Ieee.{Format, Float, nan, round, to_bits}
use Rattle.defmt_grammar.specs.declared.kind.FloatSize.{FloatSize}
use Rattle.defmt_grammar.specs.declared.kind.FloatSize.TheVariants as floats
use Rattle.defmt_shapes.specs.Shape.{IsNumber}
use Rattle.defmt_spelling.specs.Meaning.{format_of, nearest_bits, text_bits}

-- digits alone
abbrev whole_parts : List ℕ → Parts
whole_parts digits = record { whole = digits; point = false; fraction = []; exponent_negative = false; exponent = []; len = length (digits ++ []) }

whole_well : (digits : List ℕ) (n : ℕ) → IsNumber 10 digits n → IsWellFormed (whole_parts digits)
whole_well digits n h = record { whole_digits = h.all; fraction_digits = tt; exponent_digits = tt; no_point = λ e. refl; no_exponent = λ e. refl; len_is = refl }

whole_scan : (digits : List ℕ) (n : ℕ) → IsNumber 10 digits n → scan_numeral digits ≡ whole_parts digits
whole_scan digits n h = ap scan_numeral (sym (append-nil digits)) ∙ scan_numeral-text_of (whole_parts digits) (whole_well digits n h)

whole_nearest : (f : Format) (negative : Bool) (digits : List ℕ) (n : ℕ) → IsNumber 10 digits n → nearest_float f negative (whole_parts digits) ≡ round f negative n 1
whole_nearest f negative digits n h =
    let v : digits_value 10 (digits ++ []) ≡ n = ap (digits_value 10) (append-nil digits) ∙ h.value in
    let e : digits_value 10 (digits ++ []) * 10 ^ 0 ≡ n = omega (arith, v) in
    ap (λ (x : ℕ). round f negative x 1) e

pub number_bits : (size : FloatSize) (negative : Bool) (digits : List ℕ) (n : ℕ) (x : Float) (bits : ℕ) → x ≡ nearest_float (format_of size) negative (scan_numeral digits) → bits ≡ to_bits (format_of size) x → IsNumber 10 digits n → bits ≡ nearest_bits size negative n
unfolding nearest_bits
number_bits size negative digits n x bits e b h =
    b ∙ ap (to_bits (format_of size)) (e ∙ ap (nearest_float (format_of size) negative) (whole_scan digits n h) ∙ whole_nearest (format_of size) negative digits n h)

pub text_read : (size : FloatSize) (text : List ℕ) (x : Float) (bits : ℕ) → parse_float (format_of size) text ≡ Some x → bits ≡ to_bits (format_of size) x → bits ≡ text_bits size text
unfolding text_bits
text_read size text x bits p b = b ∙ ap (λ (o : Option Float). to_bits (format_of size) (unwrap_or o nan)) (sym p)

nan_bits : (size : FloatSize) (text : List ℕ) → parse_float (format_of size) text ≡ None → to_bits (format_of size) nan ≡ text_bits size text
unfolding text_bits
nan_bits size text p = ap (λ (o : Option Float). to_bits (format_of size) (unwrap_or o nan)) (sym p)

pub no_text_small : (text : List ℕ) → parse_float (format_of floats.W32) text ≡ None → 2143289344 ≡ text_bits floats.W32 text
unfolding to_bits
no_text_small text p = nan_bits floats.W32 text p

pub no_text_wide : (text : List ℕ) → parse_float (format_of floats.W64) text ≡ None → 9221120237041090560 ≡ text_bits floats.W64 text
unfolding to_bits
no_text_wide text p = nan_bits floats.W64 text p
