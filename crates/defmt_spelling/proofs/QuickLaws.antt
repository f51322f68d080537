-- Quick values, and the front of a text that has one.
use Rattle.std.proofs.lemmas.Bool.{lt-ltb}
use Rattle.std.proofs.Common.{◌≡◌, ◌<◌, ◌%◌, ◌^◌, ◌+◌, arith, ℕ, Bool, List, Ok, refl, sym, ap, subst, ◌∙◌}
use Rattle.defmt_grammar.specs.Cut.{skip_spaces}
use Rattle.defmt_grammar.specs.Sizes.{size_bits}
use Rattle.defmt_grammar.specs.declared.kind.IntSize.{IntSize}
use Rattle.defmt_grammar.specs.declared.kind.Kind.TheVariants as kinds
use Rattle.defmt_grammar.specs.declared.language.Language.{Language}
use Rattle.defmt_grammar.specs.declared.slot.Slot.{Slot}
use Rattle.defmt_grammar.specs.declared.slot.Slot.TheVariants as slots
use Rattle.defmt_intern.specs.Table.{Map}
use Rattle.defmt_shapes.specs.Shape as shapes
use Rattle.defmt_shapes.specs.Shape.{HeadShape}
use Rattle.defmt_spelling.proofs.Arms.{decimal_scan}
use Rattle.defmt_spelling.specs.Leaves.{NotFloat, decimal_cause, sum_or}
use Rattle.defmt_spelling.specs.Meaning.{decimal_at, negated, negative_at, meant_val}
use Rattle.defmt_spelling.specs.Names.{NameMap}
use Rattle.defmt_spelling.specs.Quick.{Appended, IsQuick}
use Rattle.defmt_spelling.specs.Reading.{Front}
use Rattle.defmt_values.specs.Plain.{Val, Vals, snoc, bits, uint, int, flag, str, bytes}
use Rattle.defmt_values.specs.Scan.{int_cause, scan_val}

pub decimal_quick : (slot : Slot) (text rest : List ℕ) (n : ℕ) (v : Val) → ((language : Language) → HeadShape language text (shapes.decimal n) rest) → v ≡ decimal_at slot n → decimal_cause slot n ≡ Ok tt → IsQuick slot text v rest
unfolding meant_val
decimal_quick slot text rest n v head is fits = record {
  shape = shapes.decimal n;
  head = head;
  meant = λ names t. sym is;
  fits = λ t left weight sum.
      ap (λ (x : Val). scan_val t left slot weight sum x) is ∙ decimal_scan t left weight sum slot n ∙ ap (λ cause. sum_or cause sum) fits;
}

pub uint_quick : (size : IntSize) (text rest : List ℕ) (n : ℕ) → ((language : Language) → HeadShape language text (shapes.decimal n) rest) → n < 2 ^ size_bits size → IsQuick (slots.One (kinds.Uint size)) text (uint n) rest
uint_quick size text rest n head small =
    decimal_quick (slots.One (kinds.Uint size)) text rest n (uint n) head refl (rw (lt-ltb n (2 ^ size_bits size) small) refl)

pub uint_appended : (size : IntSize) (text rest : List ℕ) (n m : ℕ) (old new : Vals) → ((language : Language) → HeadShape language text (shapes.decimal n) rest) → n < 2 ^ size_bits size → m ≡ n → new ≡ snoc old (uint m)
    → Appended (slots.One (kinds.Uint size)) text old new rest
uint_appended size text rest n m old new head small e is = record { value = uint n; is = is ∙ ap (λ (k : ℕ). snoc old (uint k)) e; quick = uint_quick size text rest n head small }

pub bits_quick : (width : ℕ) (text rest : List ℕ) (n : ℕ) → ((language : Language) → HeadShape language text (shapes.decimal n) rest) → n < 256 ^ width → IsQuick (slots.Bits 0 width) text (bits n) rest
bits_quick width text rest n head small =
    let none : n % 1 ≡ 0 = omega arith in
    let same : width ≡ 0 + width = omega arith in
    let within : n < 256 ^ (0 + width) = subst (λ (k : ℕ). n < 256 ^ k) same small in
    decimal_quick (slots.Bits 0 width) text rest n (bits n) head refl (rw (lt-ltb n (256 ^ (0 + width)) within, none) refl)

pub bits_appended : (width : ℕ) (text rest : List ℕ) (n m : ℕ) (old new : Vals) → ((language : Language) → HeadShape language text (shapes.decimal n) rest) → n < 256 ^ width → m ≡ n → new ≡ snoc old (bits m) → Appended (slots.Bits 0 width) text old new rest
bits_appended width text rest n m old new head small e is = record { value = bits n; is = is ∙ ap (λ (k : ℕ). snoc old (bits k)) e; quick = bits_quick width text rest n head small }

number_not_float : (slot : Slot) (n : ℕ) → NotFloat slot → negative_at slot n ≡ int (negated n)
number_not_float (slots.One (kinds.Uint size)) n h = refl
number_not_float (slots.One (kinds.Int size)) n h = refl
number_not_float (slots.One kinds.Bool) n h = refl
number_not_float (slots.One kinds.Char) n h = refl
number_not_float (slots.One kinds.Str) n h = refl
number_not_float (slots.One kinds.Istr) n h = refl
number_not_float (slots.One kinds.Bytes) n h = refl
number_not_float (slots.One (kinds.ByteArray count)) n h = refl
number_not_float (slots.One kinds.Format) n h = refl
number_not_float (slots.One kinds.FormatSlice) n h = refl
number_not_float (slots.One (kinds.FormatArray count)) n h = refl
number_not_float (slots.One (kinds.Bits lo hi)) n h = refl
number_not_float (slots.One kinds.Debug) n h = refl
number_not_float (slots.One kinds.Display) n h = refl
number_not_float (slots.One kinds.Sequence) n h = refl
number_not_float (slots.One (kinds.Float size)) n h = absurd h
number_not_float (slots.Bits first width) n h = refl

pub negative_quick : (slot : Slot) (text rest : List ℕ) (n : ℕ) (v : Val) → NotFloat slot → ((language : Language) → HeadShape language text (shapes.negative n) rest) → v ≡ int (negated n) → int_cause slot (negated n) ≡ Ok tt → IsQuick slot text v rest
unfolding meant_val scan_val
negative_quick slot text rest n v other head is fits = record {
  shape = shapes.negative n;
  head = head;
  meant = λ names t. number_not_float slot n other ∙ sym is;
  fits = λ t left weight sum. rw (is, fits) refl;
}

pub flag_quick : (text rest : List ℕ) (b : Bool) → ((language : Language) → HeadShape language text (shapes.flag b) rest) → IsQuick (slots.One kinds.Bool) text (flag b) rest
unfolding meant_val scan_val
flag_quick text rest b head = record { shape = shapes.flag b; head = head; meant = λ names t. refl; fits = λ t left weight sum. refl }

pub flag_appended : (text rest : List ℕ) (b : Bool) (old new : Vals) → ((language : Language) → HeadShape language text (shapes.flag b) rest) → new ≡ snoc old (flag b) → Appended (slots.One kinds.Bool) text old new rest
flag_appended text rest b old new head is = record { value = flag b; is = is; quick = flag_quick text rest b head }

pub str_quick : (text rest inside s : List ℕ) → ((language : Language) → HeadShape language text (shapes.quoted inside) rest) → s ≡ inside → IsQuick (slots.One kinds.Str) text (str s) rest
unfolding meant_val scan_val
str_quick text rest inside s head is = record {
  shape = shapes.quoted inside;
  head = head;
  meant = λ names t. ap str (sym is);
  fits = λ t left weight sum. refl;
}

pub str_appended : (text rest inside s : List ℕ) (old new : Vals) → ((language : Language) → HeadShape language text (shapes.quoted inside) rest) → s ≡ inside → new ≡ snoc old (str s) → Appended (slots.One kinds.Str) text old new rest
str_appended text rest inside s old new head same is = record { value = str s; is = is; quick = str_quick text rest inside s head same }

pub bytes_quick : (text rest bs : List ℕ) → ((language : Language) → HeadShape language text (shapes.bytes bs) rest) → IsQuick (slots.One kinds.Bytes) text (bytes bs) rest
unfolding meant_val scan_val
bytes_quick text rest bs head = record { shape = shapes.bytes bs; head = head; meant = λ names t. refl; fits = λ t left weight sum. refl }

pub bytes_appended : (text rest bs : List ℕ) (old new : Vals) → ((language : Language) → HeadShape language text (shapes.bytes bs) rest) → new ≡ snoc old (bytes bs) → Appended (slots.One kinds.Bytes) text old new rest
bytes_appended text rest bs old new head is = record { value = bytes bs; is = is; quick = bytes_quick text rest bs head }

-- what is read quickly is what stands in front
pub quick_front : (names : NameMap) (t : Map) (left : ℕ) (slot : Slot) (weight sum : ℕ) (text behind : List ℕ) (v : Val) (rest : List ℕ) → behind ≡ skip_spaces text → IsQuick slot behind v rest → Front names t left slot weight sum text v sum rest
quick_front names t left slot weight sum text behind v rest is q = record {
  shape = q.shape;
  head = subst (λ (x : List ℕ). HeadShape t.language x q.shape rest) is (q.head t.language);
  meant = q.meant names t;
  fits = q.fits t left weight sum;
}
