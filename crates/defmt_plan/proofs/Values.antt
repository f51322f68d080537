-- What is known of one value that was read and written.
use Rattle.std.proofs.Common.{◌≡◌, ◌<◌, ◌+◌, ◌^◌, inl, inr, ℕ, ℤ, Bool, nat_lt, List, [], ◌∷◌, ◌++◌, length, refl, sym, ap, subst, ◌∙◌, arith, IsUtf8}
use Rattle.std.proofs.lemmas.Bool.{lt-ltb}
use Rattle.std.proofs.lemmas.Str.{IsUtf8-encode}
use Rattle.std.specs.Char.{IsScalar}
use Rattle.std.specs.List.{AllByRecursion}
use Rattle.std.specs.Prelude.{if◌then◌else◌}
use Rattle.byteorder.specs.Endian.{little_bytes, twos_complement}
use Rattle.defmt_grammar.specs.Sizes.{float_bits, float_bytes, size_bits, IsSigned}
use Rattle.defmt_grammar.specs.declared.hint.Hint.{Hint}
use Rattle.defmt_grammar.specs.declared.hint.Hint.TheVariants as hints
use Rattle.defmt_grammar.specs.declared.kind.FloatSize.{FloatSize}
use Rattle.defmt_grammar.specs.declared.kind.FloatSize.TheVariants as floats
use Rattle.defmt_grammar.specs.declared.kind.IntSize.{IntSize}
use Rattle.defmt_grammar.specs.declared.kind.Kind.{Kind}
use Rattle.defmt_grammar.specs.declared.kind.Kind.TheVariants as kinds
use Rattle.defmt_grammar.specs.declared.slot.Slot.TheVariants as slots
use Rattle.defmt_hints.specs.Printed.{printed_uint, printed_int, printed_float, printed_bool, printed_char, printed_str, printed_bytes, twos_complement as printed_complement}
use Rattle.defmt_intern.specs.Table.{Map}
use Rattle.defmt_values.specs.Plain.{uint, int, flag, char, str, float, bytes as byte_list}
use Rattle.defmt_encode.specs.Carry.{size_bytes, flag_byte, text_end, bytes_val}
use Rattle.defmt_eager.specs.Show.{int_text, show_val, acting}
use Rattle.defmt_plan.proofs.Carrying.{carried_two}
use Rattle.defmt_plan.proofs.Complements.{complement_is, signed_test, small_bits}
use Rattle.defmt_plan.specs.Carried.{Carried}
use Rattle.defmt_plan.specs.Passed.{PassedOne}
use Rattle.defmt_eager.proofs.Parts.{placed}
use Rattle.defmt_eager.specs.Answers.{Placed}
use Rattle.defmt_hints.proofs.Utf8Laws.{utf8_bool, utf8_float, utf8_bytes, utf8_char, utf8_int, utf8_str, utf8_uint}
use Rattle.defmt_hints.specs.Written.{Written}

-- the bits of a float
pub small_float : (size : FloatSize) (n : ℕ) → n < 256 ^ float_bytes size → n < 2 ^ float_bits size
small_float floats.W32 n h = omega (arith, h)
small_float floats.W64 n h = omega (arith, h)

module _ (t : Map) (hint : Hint) (bytes : List ℕ) (from : ℕ) (old : List ℕ) (at : ℕ) (new : List ℕ) (end : ℕ) where
  pub passed_uint : (size : IntSize) (w n : ℕ) → w ≡ size_bytes size → n < 256 ^ w → Carried bytes from (from + w) (little_bytes w n) → Written old at new end (printed_uint n hint) → PassedOne t (kinds.Uint size) hint bytes from (from + w) old at new end
  unfolding bytes_val show_val
  passed_uint size w n e small c p = record {
    value = uint n;
    weightless = λ weight. refl;
    fits = λ left. record { size = size; slot_is = refl; in_range = small_bits size n (subst (λ (k : ℕ). n < 256 ^ k) e small) };
    sound = tt;
    lengths = tt;
    carried = subst (λ (k : ℕ). Carried bytes from (from + w) (little_bytes k n)) e c;
    written = placed (utf8_uint n hint) p;
  }

  pub passed_bool : (b : Bool) → Carried bytes from (from + 1) (flag_byte b ∷ []) → Written old at new end (printed_bool b) → PassedOne t kinds.Bool hint bytes from (from + 1) old at new end
  unfolding bytes_val show_val
  passed_bool b c p = record {
    value = flag b;
    weightless = λ weight. refl;
    fits = λ left. refl;
    sound = tt;
    lengths = tt;
    carried = c;
    written = placed (utf8_bool b) p;
  }

  pub passed_str : (s : List ℕ) → IsUtf8 s → length s < 2 ^ 32 → Carried bytes from (from + 4 + length s) (little_bytes 4 (length s) ++ s) → Written old at new end (printed_str s hint) → PassedOne t kinds.Str hint bytes from (from + 4 + length s) old at new end
  unfolding bytes_val show_val
  passed_str s utf8 few c p = record {
    value = str s;
    weightless = λ weight. refl;
    fits = λ left. inl refl;
    sound = utf8;
    lengths = few;
    carried = c;
    written = placed (utf8_str s hint utf8) p;
  }

  pub passed_char : (c : ℕ) → IsScalar c → Carried bytes from (from + 4) (little_bytes 4 c) → Written old at new end (printed_char c hint) → PassedOne t kinds.Char hint bytes from (from + 4) old at new end
  unfolding bytes_val show_val
  passed_char c scalar k p = record {
    value = char c;
    weightless = λ weight. refl;
    fits = λ left. refl;
    sound = scalar;
    lengths = tt;
    carried = k;
    written = placed (utf8_char c hint (IsUtf8-encode c scalar)) p;
  }

  pub passed_bytes : (n : ℕ) (s : List ℕ) → n < 2 ^ 32 → length s ≡ n → AllByRecursion (λ b. b < 256) s → Carried bytes from (from + 4) (little_bytes 4 n) → Carried bytes (from + 4) (from + 4 + n) s → Written old at new end (printed_bytes s hint) → PassedOne t kinds.Bytes hint bytes from (from + 4 + n) old at new end
  unfolding bytes_val show_val
  passed_bytes n s few size small c d p =
      let both : Carried bytes from (from + 4 + n) (little_bytes 4 n ++ s) = carried_two bytes from (from + 4) (from + 4 + n) (little_bytes 4 n) s c d in
      record {
        value = byte_list s;
        weightless = λ weight. refl;
        fits = λ left. inl refl;
        sound = small;
        lengths = omega (arith, size, few);
        carried = subst (λ (k : ℕ). Carried bytes from (from + 4 + n) (little_bytes 4 k ++ s)) (sym size) both;
        written = placed (utf8_bytes s hint) p;
      }

  pub passed_array : (n m : ℕ) (s : List ℕ) → m ≡ n → length s ≡ m → AllByRecursion (λ b. b < 256) s → Carried bytes from (from + m) s → Written old at new end (printed_bytes s hint) → PassedOne t (kinds.ByteArray n) hint bytes from (from + m) old at new end
  unfolding bytes_val show_val
  passed_array n m s e size small c p = record {
    value = byte_list s;
    weightless = λ weight. refl;
    fits = λ left. inr (ap (λ (k : ℕ). slots.One (kinds.ByteArray k)) (sym (size ∙ e)));
    sound = small;
    lengths = tt;
    carried = c;
    written = placed (utf8_bytes s hint) p;
  }

  pub passed_int : (size : IntSize) (w n : ℕ) → w ≡ size_bytes size → n < 256 ^ size_bytes size → Carried bytes from (from + w) (little_bytes w n)
      → ((z : ℤ) → IsSigned (size_bits size) z → printed_complement (size_bits size) z ≡ n → Written old at new end (printed_int z size hint)) → PassedOne t (kinds.Int size) hint bytes from (from + w) old at new end
  unfolding bytes_val show_val
  passed_int size w n e small c p =
      let z : ℤ = twos_complement (size_bytes size) n in
      let k = complement_is size n small in
      let shown : int_text (kinds.Int size) z hint ≡ printed_int z size hint = ap (λ (b : Bool). if b then printed_int z size hint else []) (signed_test (size_bits size) z k.signed) in
      record {
        value = int z;
        weightless = λ weight. refl;
        fits = λ left. record { size = size; slot_is = refl; in_range = k.signed };
        sound = tt;
        lengths = tt;
        carried = subst (λ (part : List ℕ). Carried bytes from (from + w) part) (ap (λ (m : ℕ). little_bytes m n) e ∙ k.bytes) c;
        written = subst (λ (text : List ℕ). Placed old at new end text) (sym shown) (placed (utf8_int z size hint) (p z k.signed k.back));
      }

  pub passed_float : (size : FloatSize) (w n : ℕ) → w ≡ float_bytes size → n < 256 ^ float_bytes size → Carried bytes from (from + float_bytes size) (little_bytes (float_bytes size) n) → Written old at new end (printed_float size n) → PassedOne t (kinds.Float size) hint bytes from (from + w) old at new end
  unfolding bytes_val show_val
  passed_float size w n e small c p =
      let shown : printed_float size n ≡ (if nat_lt n (2 ^ float_bits size) then printed_float size n else []) = rw (lt-ltb n (2 ^ float_bits size) (small_float size n small)) refl in
      record {
        value = float n;
        weightless = λ weight. refl;
        fits = λ left. record { size = size; slot_is = refl; in_range = small_float size n small };
        sound = tt;
        lengths = tt;
        carried = subst (λ (k : ℕ). Carried bytes from (from + k) (little_bytes (float_bytes size) n)) (sym e) c;
        written = subst (λ (text : List ℕ). Placed old at new end text) shown (placed (utf8_float size n) p);
      }

  pub passed_debug : (s : List ℕ) → IsUtf8 s → Carried bytes from (from + length s + 1) (s ++ text_end ∷ []) → Written old at new end s → PassedOne t kinds.Debug hint bytes from (from + length s + 1) old at new end
  unfolding bytes_val show_val printed_str
  passed_debug s utf8 c p = record {
    value = str s;
    weightless = λ weight. refl;
    fits = λ left. inr (inl refl);
    sound = utf8;
    lengths = tt;
    carried = c;
    written = placed utf8 p;
  }

  pub passed_display : (s : List ℕ) → IsUtf8 s → Carried bytes from (from + length s + 1) (s ++ text_end ∷ []) → Written old at new end s → PassedOne t kinds.Display hint bytes from (from + length s + 1) old at new end
  unfolding bytes_val show_val printed_str
  passed_display s utf8 c p = record {
    value = str s;
    weightless = λ weight. refl;
    fits = λ left. inr (inr refl);
    sound = utf8;
    lengths = tt;
    carried = c;
    written = placed utf8 p;
  }

pub acting_plain : (hint : Hint) → acting hints.Plain hint ≡ hint
acting_plain hints.Plain = refl
acting_plain hints.Debug = refl
acting_plain (hints.Radix base alt width) = refl
acting_plain hints.Ascii = refl
acting_plain hints.Micros = refl
acting_plain hints.Millis = refl
acting_plain (hints.Iso unit) = refl
acting_plain (hints.Clock unit) = refl
acting_plain (hints.Pad width) = refl
