-- Floats are written so that they read back.
use Rattle.std.proofs.Common.{◌≡◌, ◌<◌, ◌≤◌, ◌+◌, ◌-◌, ◌*◌, ◌/◌, ◌%◌, ◌^◌, ℕ, zero, suc, Bool, true, false, not, cond, ◌&&◌, eqb, leb, ltb, List, [], ◌∷◌, ◌++◌, codes, Option, unwrap_or, refl, sym, ap, subst, ◌∙◌, arith, inl, inr}
use Rattle.std.proofs.lemmas.Bool.{cases_Bool, cases_eq, cases_lt, eqb-true, lt-ltb, lt-leb, le-leb}
use Rattle.std.proofs.lemmas.Fmt.{decimal_is_IsNumeral}
use Rattle.std.proofs.lemmas.Float.Parse.{parse_float-text_of, parse_float_on_literals}
use Rattle.std.specs.Float.Parse.{parse_float}
use Rattle.std.specs.Fmt.{decimal, sign_text}
use Rattle.core.proofs.fmt.Decimal.{length-decimal-le}
use native.Mathlib.Nat.{mod-eq_of_lt, add-mod_left}
use lib.Ieee.{Format, Float, binary32, binary64, inf, nan, top, low, emax, prec, odd, units, round, to_bits}
use Rattle.defmt_floats.specs.Layout.{infinity, laid_out, magnitude_text, float_text as layout_text}
use Rattle.defmt_floats.proofs.TextLaws.{infinite, none, finite, no_number, signed}
use Rattle.defmt_grammar.specs.Sizes.{float_bits}
use Rattle.defmt_grammar.specs.declared.kind.FloatSize.{FloatSize}
use Rattle.defmt_grammar.specs.declared.kind.FloatSize.TheVariants as floats
use Rattle.defmt_grammar.specs.declared.kind.Kind.TheVariants as kinds
use Rattle.defmt_grammar.specs.declared.language.Language.{Language}
use Rattle.defmt_grammar.specs.declared.slot.Slot.{Slot}
use Rattle.defmt_grammar.specs.declared.slot.Slot.TheVariants as slots
use Rattle.defmt_hints.specs.Printed.{printed_float}
use Rattle.defmt_intern.specs.Table.{Map}
use Rattle.defmt_shapes.specs.Shape.{Shape, IsFull, IsFloat as IsFloatText, SpellsShape}
use Rattle.defmt_shapes.specs.Shape as shapes
use Rattle.defmt_spelling.proofs.FloatDigits.{written}
use Rattle.defmt_spelling.proofs.FloatParts.{ReadsBack, laid_back}
use Rattle.defmt_spelling.proofs.SlotLaws.{IsSlotOf, slot_full}
use Rattle.defmt_spelling.proofs.Written.{hex_number}
use Rattle.defmt_spelling.specs.Meaning.{format_of, text_bits, meant_val}
use Rattle.defmt_spelling.specs.Names.{NameMap}
use Rattle.defmt_spelling.specs.Printed.{is_odd_nan, bits_text, float_text}
use Rattle.defmt_values.specs.Fits.{IsFloat}
use Rattle.defmt_values.specs.Plain.{float}

-- ---- the sign

odd_signed : (f : Format) (d q k l : ℕ) → to_bits f (odd d true q k l) ≡ top f + to_bits f (odd d false q k l)
unfolding odd to_bits
odd_signed f d zero k l = omega arith
odd_signed f d (suc q) k l = omega arith

infinite_signed : (f : Format) → to_bits f (inf true) ≡ top f + to_bits f (inf false)
unfolding to_bits
infinite_signed f = omega arith

units_signed : (f : Format) (q k : ℕ) → to_bits f (units f true q k) ≡ top f + to_bits f (units f false q k)
unfolding units
units_signed f q k = elim (cases_Bool (ltb (q * 2 ^ k) (2 ^ (low f + suc (emax f))))) [
  | inl t ↦ rw t (odd_signed f (suc (prec f)) q k (low f))
  | inr t ↦ rw t (infinite_signed f)
]

round_signed : (f : Format) (a b : ℕ) → to_bits f (round f true a b) ≡ top f + to_bits f (round f false a b)
unfolding round
round_signed f a b = units_signed f _ _

-- ---- texts that read back

record Reads (f : Format) (text : List ℕ) (bits : ℕ) : Type 0 where
  is : IsFloatText text
  bits_are : to_bits f (unwrap_or (parse_float f text) nan) ≡ bits

abbrev signed_bits : Format → Bool → ℕ → ℕ
signed_bits f b m = cond b (top f) 0 + m

number_reads : (f : Format) (b : Bool) (m : ℕ) (text : List ℕ) → ReadsBack f m text → Reads f (sign_text b ++ text) (signed_bits f b m)
number_reads f true m text r = record {
  is = inr (inr (text, inl r.scaled, refl));
  bits_are = ap (λ (t : List ℕ). to_bits f (unwrap_or (parse_float f (45 ∷ t)) nan)) r.text_is
      ∙ ap (λ (o : Option Float). to_bits f (unwrap_or o nan)) (parse_float-text_of f true r.parts r.well r.some)
      ∙ round_signed f _ _ ∙ ap (λ (x : ℕ). top f + x) r.value;
}
number_reads f false m text r =
    let same : m ≡ 0 + m = omega arith in
    record {
      is = inr (inl (inl r.scaled));
      bits_are = ap (λ (t : List ℕ). to_bits f (unwrap_or (parse_float f t) nan)) r.text_is
          ∙ ap (λ (o : Option Float). to_bits f (unwrap_or o nan)) (parse_float-text_of f false r.parts r.well r.some)
          ∙ r.value ∙ same;
    }

inf_reads : (f : Format) (b : Bool) → Reads f (sign_text b ++ codes "inf") (signed_bits f b (infinity f))
unfolding parse_float_on_literals to_bits
inf_reads binary32 true = record { is = inr (inr (codes "inf", inr refl, refl)); bits_are = refl }
inf_reads binary32 false = record { is = inr (inl (inr refl)); bits_are = refl }
inf_reads binary64 true = record { is = inr (inr (codes "inf", inr refl, refl)); bits_are = refl }
inf_reads binary64 false = record { is = inr (inl (inr refl)); bits_are = refl }

zero_scaled : shapes.IsScaled (codes "0.0")
zero_scaled = (48 ∷ [], 46 ∷ 48 ∷ [], (omega arith, (omega arith, tt)), inl (48 ∷ [], (omega arith, (omega arith, tt)), refl), refl)

zero_reads : (f : Format) (b : Bool) → Reads f (sign_text b ++ codes "0.0") (signed_bits f b 0)
unfolding parse_float_on_literals to_bits
zero_reads binary32 true = record { is = inr (inr (codes "0.0", inl zero_scaled, refl)); bits_are = refl }
zero_reads binary32 false = record { is = inr (inl (inl zero_scaled)); bits_are = refl }
zero_reads binary64 true = record { is = inr (inr (codes "0.0", inl zero_scaled, refl)); bits_are = refl }
zero_reads binary64 false = record { is = inr (inl (inl zero_scaled)); bits_are = refl }

nan_reads : (f : Format) → Reads f (codes "NaN") (to_bits f nan)
unfolding parse_float_on_literals
nan_reads binary32 = record { is = inl refl; bits_are = refl }
nan_reads binary64 = record { is = inl refl; bits_are = refl }

-- ---- the text of a float

magnitude_reads : (f : Format) (b : Bool) (m : ℕ) → m ≤ infinity f → Reads f (sign_text b ++ magnitude_text f m) (signed_bits f b m)
magnitude_reads f b m le = elim (cases_eq m (infinity f)) [
  | inl e ↦ subst (λ (t : List ℕ). Reads f (sign_text b ++ t) (signed_bits f b m)) (infinite f m e) (subst (λ (x : ℕ). Reads f (sign_text b ++ codes "inf") (signed_bits f b x)) (sym e) (inf_reads f b))
  | inr some ↦ elim (cases_eq m 0) [
    | inl z ↦ subst (λ (t : List ℕ). Reads f (sign_text b ++ t) (signed_bits f b m)) (none f m some z) (subst (λ (x : ℕ). Reads f (sign_text b ++ codes "0.0") (signed_bits f b x)) (sym z) (zero_reads f b))
    | inr more ↦ (
        let w = written f m (omega arith) (omega arith) in
        let x = decimal_is_IsNumeral w.d w.small in
        let short = length-decimal-le 20 w.d (omega arith) (omega (arith, w.small)) w.small in
        let text : laid_out f (decimal w.d) w.i ≡ magnitude_text f m = w.text ∙ finite f m some more in
        subst (λ (t : List ℕ). Reads f (sign_text b ++ t) (signed_bits f b m)) text (number_reads f b m (laid_out f (decimal w.d) w.i) (laid_back f m w.d w.i w.nearest (decimal w.d) x.0 x.1 short w.low)))
  ]
]

sign_and_rest : (f : Format) (bits : ℕ) → bits < 2 * top f → signed_bits f (leb (top f) bits) (bits % top f) ≡ bits
sign_and_rest f bits h = elim (cases_lt bits (top f)) [
  | inl lt ↦ rw (lt-leb (top f) bits lt, mod-eq_of_lt lt) (omega arith)
  | inr le ↦ (
      let r = bits - top f in
      let whole : bits ≡ top f + r = omega arith in
      let rest : bits % top f ≡ r = ap (λ (x : ℕ). x % top f) whole ∙ add-mod_left (top f) r ∙ mod-eq_of_lt (omega arith) in
      rw (le-leb (top f) bits le, rest) (sym whole))
]

text_reads : (f : Format) (bits : ℕ) → bits < 2 * top f → (infinity f < bits % top f → bits ≡ to_bits f nan) → Reads f (layout_text f bits) bits
text_reads f bits h odd = elim (cases_lt (infinity f) (bits % top f)) [
  | inl lt ↦ subst (λ (t : List ℕ). Reads f t bits) (no_number f bits (bits % top f) refl lt) (subst (Reads f (codes "NaN")) (sym (odd lt)) (nan_reads f))
  | inr le ↦ subst (λ (t : List ℕ). Reads f t bits) (signed f bits (bits % top f) refl le) (subst (Reads f (sign_text (leb (top f) bits) ++ magnitude_text f (bits % top f))) (sign_and_rest f bits h) (magnitude_reads f (leb (top f) bits) (bits % top f) le))
]

-- ---- of a size

both_false : (a b : Bool) → (a && not b) ≡ false → a ≡ true → b ≡ true
both_false true true h e = refl
both_false true false h e = absurd cc
both_false false b h e = absurd cc

not_odd : (size : FloatSize) (n : ℕ) → is_odd_nan size n ≡ false → infinity (format_of size) < n % top (format_of size) → n ≡ to_bits (format_of size) nan
unfolding is_odd_nan to_bits
not_odd floats.W32 n h lt = eqb-true n 2143289344 (both_false (ltb 2139095040 (n % 2147483648)) (eqb n 2143289344) h (lt-ltb 2139095040 (n % 2147483648) lt))
not_odd floats.W64 n h lt = eqb-true n 9221120237041090560 (both_false (ltb 9218868437227405312 (n % 9223372036854775808)) (eqb n 9221120237041090560) h (lt-ltb 9218868437227405312 (n % 9223372036854775808) lt))

in_format : (size : FloatSize) (n : ℕ) → n < 2 ^ float_bits size → n < 2 * top (format_of size)
in_format floats.W32 n h = h
in_format floats.W64 n h = h

printed_is : (size : FloatSize) (n : ℕ) → layout_text (format_of size) n ≡ printed_float size n
unfolding printed_float
printed_is floats.W32 n = refl
printed_is floats.W64 n = refl

size_reads : (size : FloatSize) (n : ℕ) → n < 2 ^ float_bits size → is_odd_nan size n ≡ false → Reads (format_of size) (printed_float size n) n
size_reads size n h odd = subst (λ (t : List ℕ). Reads (format_of size) t n) (printed_is size n) (text_reads (format_of size) n (in_format size n h) (not_odd size n odd))

-- ---- of a slot

abbrev pub float_shape : Slot → ℕ → Shape
float_shape (slots.One (kinds.Float size)) n = cond (is_odd_nan size n) (shapes.hexadecimal n) (shapes.float (printed_float size n))
float_shape slot n = shapes.decimal n

spelled_by : (lang : Language) (size : FloatSize) (n : ℕ) (b : Bool) → is_odd_nan size n ≡ b → IsFull lang → n < 2 ^ float_bits size → SpellsShape lang (cond b (bits_text size n) (printed_float size n)) (cond b (shapes.hexadecimal n) (shapes.float (printed_float size n)))
spelled_by lang size n true e full h = (_, hex_number (float_bits size / 4) n, refl)
spelled_by lang size n false e full h = (full, (size_reads size n h e).is, refl)

sized_spelled : (lang : Language) (size : FloatSize) (n : ℕ) → IsFull lang → n < 2 ^ float_bits size → SpellsShape lang (float_text (slots.One (kinds.Float size)) n) (float_shape (slots.One (kinds.Float size)) n)
unfolding float_text
sized_spelled lang size n full h = rw (lt-ltb n (2 ^ float_bits size) h) (spelled_by lang size n (is_odd_nan size n) refl full h)

pub float_spelled : (lang : Language) (slot : Slot) (n : ℕ) → IsSlotOf lang slot → IsFloat slot n → SpellsShape lang (float_text slot n) (float_shape slot n)
float_spelled lang slot n b f =
    subst (λ (s : Slot). SpellsShape lang (float_text s n) (float_shape s n)) (sym f.slot_is)
    (sized_spelled lang f.size n (slot_full lang slot (slots.One (kinds.Float f.size)) (λ x. x) b f.slot_is) f.in_range)

bits_back : (size : FloatSize) (n : ℕ) → n < 2 ^ float_bits size → is_odd_nan size n ≡ false → text_bits size (printed_float size n) ≡ n
unfolding text_bits
bits_back size n h e = (size_reads size n h e).bits_are

sized_meant : (names : NameMap) (t : Map) (size : FloatSize) (n : ℕ) (b : Bool) → is_odd_nan size n ≡ b → n < 2 ^ float_bits size → meant_val names t (slots.One (kinds.Float size)) (cond b (shapes.hexadecimal n) (shapes.float (printed_float size n))) ≡ float n
unfolding meant_val
sized_meant names t size n true e h = refl
sized_meant names t size n false e h = ap float (bits_back size n h e)

pub float_meant : (names : NameMap) (t : Map) (slot : Slot) (n : ℕ) → IsFloat slot n → meant_val names t slot (float_shape slot n) ≡ float n
float_meant names t slot n f =
    subst (λ (s : Slot). meant_val names t s (float_shape s n) ≡ float n) (sym f.slot_is) (sized_meant names t f.size n (is_odd_nan f.size n) refl f.in_range)
