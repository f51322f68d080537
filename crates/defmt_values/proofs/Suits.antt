-- What the tests of values by their slots pass.
use Rattle.std.proofs.Common.{◌≡◌, inl, inr, ◌^◌, ◌+◌, ◌-◌, ◌%◌, ◌==◌, ◌&&◌, nat_lt, ℕ, ℤ, pos, negsuc, Bool, true, false, Option, Some, None, Ok, refl, sym, ap}
use Rattle.std.proofs.lemmas.Bool.{ltb-true, eqb-true, and_parts}
use Rattle.defmt_grammar.specs.Sizes.{size_bits, float_bits, is_signed, IsSigned}
use Rattle.defmt_grammar.specs.declared.kind.Kind.TheVariants as kinds
use Rattle.defmt_grammar.specs.declared.slot.Slot.{Slot}
use Rattle.defmt_grammar.specs.declared.slot.Slot.TheVariants as slots
use Rattle.defmt_intern.specs.Table.{Map}
use Rattle.defmt_intern.specs.declared.entry.Entry.{Entry}
use Rattle.defmt_values.specs.Entries.{look}
use Rattle.defmt_values.specs.Fits.{IsUint, IsInt, IsText, IsBytes, IsBits, IsFloat, IsInterned, IsList}
use Rattle.defmt_values.specs.Scan.{test, uint_cause, int_cause, flag_cause, char_cause, str_cause, istr_cause, bytes_cause, bits_cause, float_cause, node_cause, list_cause, count_cause, sequence_cause, interned_of}

pub tested : (b : Bool) (e : ℕ) → test b e ≡ Ok tt → b ≡ true
tested true e h = refl
tested false e h = absurd (cc)

is_equal : (m n : ℕ) → (m == n) ≡ true → m ≡ n
is_equal m n h = eqb-true m n h

is_zero : (m : ℕ) → (m == 0) ≡ true → m ≡ 0
is_zero m h = is_equal m 0 h

pub uint_found : (slot : Slot) (n : ℕ) → uint_cause slot n ≡ Ok tt → IsUint slot n
uint_found (slots.One (kinds.Uint size)) n h = record { size = size; slot_is = refl; in_range = ltb-true n (2 ^ size_bits size) (tested (nat_lt n (2 ^ size_bits size)) 4 h) }
uint_found (slots.One (kinds.Int size)) n h = absurd (cc)
uint_found (slots.One kinds.Bool) n h = absurd (cc)
uint_found (slots.One kinds.Char) n h = absurd (cc)
uint_found (slots.One kinds.Str) n h = absurd (cc)
uint_found (slots.One kinds.Istr) n h = absurd (cc)
uint_found (slots.One kinds.Bytes) n h = absurd (cc)
uint_found (slots.One (kinds.ByteArray m)) n h = absurd (cc)
uint_found (slots.One kinds.Format) n h = absurd (cc)
uint_found (slots.One kinds.FormatSlice) n h = absurd (cc)
uint_found (slots.One (kinds.FormatArray m)) n h = absurd (cc)
uint_found (slots.One (kinds.Bits lo hi)) n h = absurd (cc)
uint_found (slots.One (kinds.Float size)) n h = absurd (cc)
uint_found (slots.One kinds.Debug) n h = absurd (cc)
uint_found (slots.One kinds.Display) n h = absurd (cc)
uint_found (slots.One kinds.Sequence) n h = absurd (cc)
uint_found (slots.Bits first width) n h = absurd (cc)

pub signed_found : (width : ℕ) (n : ℤ) → is_signed width n ≡ true → IsSigned width n
signed_found width (pos n) h = ltb-true n (2 ^ (width - 1)) h
signed_found width (negsuc n) h = ltb-true n (2 ^ (width - 1)) h

pub int_found : (slot : Slot) (n : ℤ) → int_cause slot n ≡ Ok tt → IsInt slot n
int_found (slots.One (kinds.Uint size)) n h = absurd (cc)
int_found (slots.One (kinds.Int size)) n h = record { size = size; slot_is = refl; in_range = signed_found (size_bits size) n (tested (is_signed (size_bits size) n) 4 h) }
int_found (slots.One kinds.Bool) n h = absurd (cc)
int_found (slots.One kinds.Char) n h = absurd (cc)
int_found (slots.One kinds.Str) n h = absurd (cc)
int_found (slots.One kinds.Istr) n h = absurd (cc)
int_found (slots.One kinds.Bytes) n h = absurd (cc)
int_found (slots.One (kinds.ByteArray m)) n h = absurd (cc)
int_found (slots.One kinds.Format) n h = absurd (cc)
int_found (slots.One kinds.FormatSlice) n h = absurd (cc)
int_found (slots.One (kinds.FormatArray m)) n h = absurd (cc)
int_found (slots.One (kinds.Bits lo hi)) n h = absurd (cc)
int_found (slots.One (kinds.Float size)) n h = absurd (cc)
int_found (slots.One kinds.Debug) n h = absurd (cc)
int_found (slots.One kinds.Display) n h = absurd (cc)
int_found (slots.One kinds.Sequence) n h = absurd (cc)
int_found (slots.Bits first width) n h = absurd (cc)

pub flag_found : (slot : Slot) → flag_cause slot ≡ Ok tt → slot ≡ slots.One kinds.Bool
flag_found (slots.One (kinds.Uint size)) h = absurd (cc)
flag_found (slots.One (kinds.Int size)) h = absurd (cc)
flag_found (slots.One kinds.Bool) h = refl
flag_found (slots.One kinds.Char) h = absurd (cc)
flag_found (slots.One kinds.Str) h = absurd (cc)
flag_found (slots.One kinds.Istr) h = absurd (cc)
flag_found (slots.One kinds.Bytes) h = absurd (cc)
flag_found (slots.One (kinds.ByteArray m)) h = absurd (cc)
flag_found (slots.One kinds.Format) h = absurd (cc)
flag_found (slots.One kinds.FormatSlice) h = absurd (cc)
flag_found (slots.One (kinds.FormatArray m)) h = absurd (cc)
flag_found (slots.One (kinds.Bits lo hi)) h = absurd (cc)
flag_found (slots.One (kinds.Float size)) h = absurd (cc)
flag_found (slots.One kinds.Debug) h = absurd (cc)
flag_found (slots.One kinds.Display) h = absurd (cc)
flag_found (slots.One kinds.Sequence) h = absurd (cc)
flag_found (slots.Bits first width) h = absurd (cc)

pub char_found : (slot : Slot) → char_cause slot ≡ Ok tt → slot ≡ slots.One kinds.Char
char_found (slots.One (kinds.Uint size)) h = absurd (cc)
char_found (slots.One (kinds.Int size)) h = absurd (cc)
char_found (slots.One kinds.Bool) h = absurd (cc)
char_found (slots.One kinds.Char) h = refl
char_found (slots.One kinds.Str) h = absurd (cc)
char_found (slots.One kinds.Istr) h = absurd (cc)
char_found (slots.One kinds.Bytes) h = absurd (cc)
char_found (slots.One (kinds.ByteArray m)) h = absurd (cc)
char_found (slots.One kinds.Format) h = absurd (cc)
char_found (slots.One kinds.FormatSlice) h = absurd (cc)
char_found (slots.One (kinds.FormatArray m)) h = absurd (cc)
char_found (slots.One (kinds.Bits lo hi)) h = absurd (cc)
char_found (slots.One (kinds.Float size)) h = absurd (cc)
char_found (slots.One kinds.Debug) h = absurd (cc)
char_found (slots.One kinds.Display) h = absurd (cc)
char_found (slots.One kinds.Sequence) h = absurd (cc)
char_found (slots.Bits first width) h = absurd (cc)

pub str_found : (slot : Slot) → str_cause slot ≡ Ok tt → IsText slot
str_found (slots.One (kinds.Uint size)) h = absurd (cc)
str_found (slots.One (kinds.Int size)) h = absurd (cc)
str_found (slots.One kinds.Bool) h = absurd (cc)
str_found (slots.One kinds.Char) h = absurd (cc)
str_found (slots.One kinds.Str) h = inl refl
str_found (slots.One kinds.Istr) h = absurd (cc)
str_found (slots.One kinds.Bytes) h = absurd (cc)
str_found (slots.One (kinds.ByteArray m)) h = absurd (cc)
str_found (slots.One kinds.Format) h = absurd (cc)
str_found (slots.One kinds.FormatSlice) h = absurd (cc)
str_found (slots.One (kinds.FormatArray m)) h = absurd (cc)
str_found (slots.One (kinds.Bits lo hi)) h = absurd (cc)
str_found (slots.One (kinds.Float size)) h = absurd (cc)
str_found (slots.One kinds.Debug) h = inr (inl refl)
str_found (slots.One kinds.Display) h = inr (inr refl)
str_found (slots.One kinds.Sequence) h = absurd (cc)
str_found (slots.Bits first width) h = absurd (cc)

pub node_found : (slot : Slot) → node_cause slot ≡ Ok tt → slot ≡ slots.One kinds.Format
node_found (slots.One (kinds.Uint size)) h = absurd (cc)
node_found (slots.One (kinds.Int size)) h = absurd (cc)
node_found (slots.One kinds.Bool) h = absurd (cc)
node_found (slots.One kinds.Char) h = absurd (cc)
node_found (slots.One kinds.Str) h = absurd (cc)
node_found (slots.One kinds.Istr) h = absurd (cc)
node_found (slots.One kinds.Bytes) h = absurd (cc)
node_found (slots.One (kinds.ByteArray m)) h = absurd (cc)
node_found (slots.One kinds.Format) h = refl
node_found (slots.One kinds.FormatSlice) h = absurd (cc)
node_found (slots.One (kinds.FormatArray m)) h = absurd (cc)
node_found (slots.One (kinds.Bits lo hi)) h = absurd (cc)
node_found (slots.One (kinds.Float size)) h = absurd (cc)
node_found (slots.One kinds.Debug) h = absurd (cc)
node_found (slots.One kinds.Display) h = absurd (cc)
node_found (slots.One kinds.Sequence) h = absurd (cc)
node_found (slots.Bits first width) h = absurd (cc)

pub interned_found : (t : Map) (index : ℕ) (o : Option Entry) → look t index ≡ o → interned_of o ≡ true → IsInterned t index
interned_found t index None e h = absurd (cc)
interned_found t index (Some entry) e h = record { entry = entry; there = e; tag = h }

pub istr_found : (t : Map) (slot : Slot) (index : ℕ) → istr_cause t slot index ≡ Ok tt → (slot ≡ slots.One kinds.Istr) × IsInterned t index
istr_found t (slots.One (kinds.Uint size)) index h = absurd (cc)
istr_found t (slots.One (kinds.Int size)) index h = absurd (cc)
istr_found t (slots.One kinds.Bool) index h = absurd (cc)
istr_found t (slots.One kinds.Char) index h = absurd (cc)
istr_found t (slots.One kinds.Str) index h = absurd (cc)
istr_found t (slots.One kinds.Istr) index h = (refl, interned_found t index (look t index) refl (tested (interned_of (look t index)) 5 h))
istr_found t (slots.One kinds.Bytes) index h = absurd (cc)
istr_found t (slots.One (kinds.ByteArray m)) index h = absurd (cc)
istr_found t (slots.One kinds.Format) index h = absurd (cc)
istr_found t (slots.One kinds.FormatSlice) index h = absurd (cc)
istr_found t (slots.One (kinds.FormatArray m)) index h = absurd (cc)
istr_found t (slots.One (kinds.Bits lo hi)) index h = absurd (cc)
istr_found t (slots.One (kinds.Float size)) index h = absurd (cc)
istr_found t (slots.One kinds.Debug) index h = absurd (cc)
istr_found t (slots.One kinds.Display) index h = absurd (cc)
istr_found t (slots.One kinds.Sequence) index h = absurd (cc)
istr_found t (slots.Bits first width) index h = absurd (cc)

pub bytes_found : (slot : Slot) (count : ℕ) → bytes_cause slot count ≡ Ok tt → IsBytes slot count
bytes_found (slots.One (kinds.Uint size)) count h = absurd (cc)
bytes_found (slots.One (kinds.Int size)) count h = absurd (cc)
bytes_found (slots.One kinds.Bool) count h = absurd (cc)
bytes_found (slots.One kinds.Char) count h = absurd (cc)
bytes_found (slots.One kinds.Str) count h = absurd (cc)
bytes_found (slots.One kinds.Istr) count h = absurd (cc)
bytes_found (slots.One kinds.Bytes) count h = inl refl
bytes_found (slots.One (kinds.ByteArray m)) count h = inr (ap (λ k. slots.One (kinds.ByteArray k)) (sym (is_equal count m (tested (count == m) 4 h))))
bytes_found (slots.One kinds.Format) count h = absurd (cc)
bytes_found (slots.One kinds.FormatSlice) count h = absurd (cc)
bytes_found (slots.One (kinds.FormatArray m)) count h = absurd (cc)
bytes_found (slots.One (kinds.Bits lo hi)) count h = absurd (cc)
bytes_found (slots.One (kinds.Float size)) count h = absurd (cc)
bytes_found (slots.One kinds.Debug) count h = absurd (cc)
bytes_found (slots.One kinds.Display) count h = absurd (cc)
bytes_found (slots.One kinds.Sequence) count h = absurd (cc)
bytes_found (slots.Bits first width) count h = absurd (cc)

pub bits_found : (slot : Slot) (n : ℕ) → bits_cause slot n ≡ Ok tt → IsBits slot n
bits_found (slots.One (kinds.Uint size)) n h = absurd (cc)
bits_found (slots.One (kinds.Int size)) n h = absurd (cc)
bits_found (slots.One kinds.Bool) n h = absurd (cc)
bits_found (slots.One kinds.Char) n h = absurd (cc)
bits_found (slots.One kinds.Str) n h = absurd (cc)
bits_found (slots.One kinds.Istr) n h = absurd (cc)
bits_found (slots.One kinds.Bytes) n h = absurd (cc)
bits_found (slots.One (kinds.ByteArray m)) n h = absurd (cc)
bits_found (slots.One kinds.Format) n h = absurd (cc)
bits_found (slots.One kinds.FormatSlice) n h = absurd (cc)
bits_found (slots.One (kinds.FormatArray m)) n h = absurd (cc)
bits_found (slots.One (kinds.Bits lo hi)) n h = absurd (cc)
bits_found (slots.One (kinds.Float size)) n h = absurd (cc)
bits_found (slots.One kinds.Debug) n h = absurd (cc)
bits_found (slots.One kinds.Display) n h = absurd (cc)
bits_found (slots.One kinds.Sequence) n h = absurd (cc)
bits_found (slots.Bits first width) n h =
    let all = tested (nat_lt n (256 ^ (first + width)) && (n % 256 ^ first == 0)) 4 h in
    record {
      first = first;
      width = width;
      slot_is = refl;
      below = ltb-true n (256 ^ (first + width)) (and_parts (nat_lt n (256 ^ (first + width))) (n % 256 ^ first == 0) all).0;
      above = is_zero (n % 256 ^ first) (and_parts (nat_lt n (256 ^ (first + width))) (n % 256 ^ first == 0) all).1;
    }

pub list_found : (slot : Slot) (count : ℕ) → list_cause slot ≡ Ok tt → count_cause slot count ≡ Ok tt → IsList slot count
list_found (slots.One (kinds.Uint size)) count h k = absurd (cc)
list_found (slots.One (kinds.Int size)) count h k = absurd (cc)
list_found (slots.One kinds.Bool) count h k = absurd (cc)
list_found (slots.One kinds.Char) count h k = absurd (cc)
list_found (slots.One kinds.Str) count h k = absurd (cc)
list_found (slots.One kinds.Istr) count h k = absurd (cc)
list_found (slots.One kinds.Bytes) count h k = absurd (cc)
list_found (slots.One (kinds.ByteArray m)) count h k = absurd (cc)
list_found (slots.One kinds.Format) count h k = absurd (cc)
list_found (slots.One kinds.FormatSlice) count h k = inl refl
list_found (slots.One (kinds.FormatArray m)) count h k = inr (ap (λ n. slots.One (kinds.FormatArray n)) (sym (is_equal count m (tested (count == m) 4 k))))
list_found (slots.One (kinds.Bits lo hi)) count h k = absurd (cc)
list_found (slots.One (kinds.Float size)) count h k = absurd (cc)
list_found (slots.One kinds.Debug) count h k = absurd (cc)
list_found (slots.One kinds.Display) count h k = absurd (cc)
list_found (slots.One kinds.Sequence) count h k = absurd (cc)
list_found (slots.Bits first width) count h k = absurd (cc)

pub float_found : (slot : Slot) (n : ℕ) → float_cause slot n ≡ Ok tt → IsFloat slot n
float_found (slots.One (kinds.Uint size)) n h = absurd (cc)
float_found (slots.One (kinds.Int size)) n h = absurd (cc)
float_found (slots.One kinds.Bool) n h = absurd (cc)
float_found (slots.One kinds.Char) n h = absurd (cc)
float_found (slots.One kinds.Str) n h = absurd (cc)
float_found (slots.One kinds.Istr) n h = absurd (cc)
float_found (slots.One kinds.Bytes) n h = absurd (cc)
float_found (slots.One (kinds.ByteArray m)) n h = absurd (cc)
float_found (slots.One kinds.Format) n h = absurd (cc)
float_found (slots.One kinds.FormatSlice) n h = absurd (cc)
float_found (slots.One (kinds.FormatArray m)) n h = absurd (cc)
float_found (slots.One (kinds.Bits lo hi)) n h = absurd (cc)
float_found (slots.One (kinds.Float size)) n h = record { size = size; slot_is = refl; in_range = ltb-true n (2 ^ float_bits size) (tested (nat_lt n (2 ^ float_bits size)) 4 h) }
float_found (slots.One kinds.Debug) n h = absurd (cc)
float_found (slots.One kinds.Display) n h = absurd (cc)
float_found (slots.One kinds.Sequence) n h = absurd (cc)
float_found (slots.Bits first width) n h = absurd (cc)

pub sequence_found : (slot : Slot) → sequence_cause slot ≡ Ok tt → slot ≡ slots.One kinds.Sequence
sequence_found (slots.One (kinds.Uint size)) h = absurd (cc)
sequence_found (slots.One (kinds.Int size)) h = absurd (cc)
sequence_found (slots.One kinds.Bool) h = absurd (cc)
sequence_found (slots.One kinds.Char) h = absurd (cc)
sequence_found (slots.One kinds.Str) h = absurd (cc)
sequence_found (slots.One kinds.Istr) h = absurd (cc)
sequence_found (slots.One kinds.Bytes) h = absurd (cc)
sequence_found (slots.One (kinds.ByteArray m)) h = absurd (cc)
sequence_found (slots.One kinds.Format) h = absurd (cc)
sequence_found (slots.One kinds.FormatSlice) h = absurd (cc)
sequence_found (slots.One (kinds.FormatArray m)) h = absurd (cc)
sequence_found (slots.One (kinds.Bits lo hi)) h = absurd (cc)
sequence_found (slots.One (kinds.Float size)) h = absurd (cc)
sequence_found (slots.One kinds.Debug) h = absurd (cc)
sequence_found (slots.One kinds.Display) h = absurd (cc)
sequence_found (slots.One kinds.Sequence) h = refl
sequence_found (slots.Bits first width) h = absurd (cc)
