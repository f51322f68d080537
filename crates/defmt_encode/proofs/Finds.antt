-- What is read is carried by the bytes: values without values inside.
use Rattle.std.proofs.Common.{◌≡◌, ◌<◌, ◌≤◌, inl, inr, ◌^◌, ◌+◌, ◌*◌, ◌/◌, ◌%◌, ℕ, zero, suc, ℤ, Bool, true, false, List, [], ◌∷◌, ◌++◌, length, Ok, refl, sym, ap, ◌∙◌, subst, arith, append_assoc, add-zero, pow-add}
use Rattle.std.proofs.lemmas.Str.{IsUtf8-from_is_utf8}
use Rattle.std.specs.Str.{is_utf8}
use Rattle.std.specs.Char.{IsScalar}
use lib.Utf8.{scalar}
use Rattle.std.proofs.Math.Nat.{mul-div_cancel, mul-add-mod_self_right, mod-eq_of_lt, mul-lt-mul_of_pos_right}
use Rattle.byteorder.specs.Endian.{little_bytes, twos_complement}
use Rattle.defmt_grammar.specs.Sizes.{size_bits, float_bits, float_bytes, IsSigned}
use Rattle.defmt_grammar.specs.declared.kind.FloatSize.{FloatSize}
use Rattle.defmt_grammar.specs.declared.kind.FloatSize.TheVariants as floats
use Rattle.defmt_grammar.specs.declared.kind.IntSize.{IntSize}
use Rattle.defmt_grammar.specs.declared.kind.IntSize.TheVariants.{W8, W16, W32, W64, W128, Native}
use Rattle.defmt_grammar.specs.declared.kind.Kind.TheVariants as kinds
use Rattle.defmt_grammar.specs.declared.slot.Slot.{Slot}
use Rattle.defmt_grammar.specs.declared.slot.Slot.TheVariants as slots
use Rattle.defmt_intern.specs.Table.{Map}
use Rattle.defmt_values.specs.Entries.{look}
use Rattle.defmt_values.specs.Fits.{IsText}
use Rattle.defmt_values.specs.Plain.{Val, uint, int, flag, char, str, istr, bytes, bits, float}
use Rattle.defmt_values.proofs.Powers.{some}
use Rattle.defmt_encode.specs.Carry.{size_bytes, flag_byte, text_end, text_bytes, bytes_val}
use Rattle.defmt_encode.specs.Fields.{Sums, FoundVal}
use Rattle.defmt_encode.specs.Lengths.{TextFits}
use Rattle.defmt_encode.specs.Read.{◌⇒◌, number_at, signed_at, chunk_at, flag_of, char_of, text_of, ended_at, bytes_at, text_at, shown_text_at, interned_of, uint_at, int_at, flag_at, char_at, str_at, float_at, shown_at, istr_at, slice_at, array_at, window_at}
use Rattle.defmt_encode.specs.declared.cause.Cause.TheVariants as causes
use Rattle.defmt_encode.proofs.Chains.{done, same, bound, chosen}
use Rattle.defmt_encode.proofs.Ends.{ended_found}
use Rattle.defmt_encode.proofs.Entries.{interned_found}
use Rattle.defmt_encode.proofs.Numbers.{AreBytes, part_sound, number_found, chunk_found}
use Rattle.defmt_encode.proofs.Signed.{twos}

abbrev pub Val3 : Type 0
Val3 = Val × ℕ × List ℕ

-- what is found at the result of a chain
pub val_to : (t : Map) (left : ℕ) (slot : Slot) (w s : ℕ) (from : List ℕ) (x y : Val3) → FoundVal t left slot w s x.1 x.0 from x.2 → done x ≡ done y → FoundVal t left slot w s y.1 y.0 from y.2
val_to t left slot w s from x y f e = subst (λ (p : Val3). FoundVal t left slot w s p.1 p.0 from p.2) (same x y e) f

pub leaf : (s : ℕ) → Sums s 0 s
leaf s = record { sum = add-zero s; kept = λ h. h }

-- ---- the sizes of integers

pub size_is : (size : IntSize) → size_bits size ≡ 8 * size_bytes size
size_is W8 = refl
size_is W16 = refl
size_is W32 = refl
size_is W64 = refl
size_is W128 = refl
size_is Native = refl

pub size_some : (size : IntSize) → 0 < size_bytes size
size_some W8 = omega arith
size_some W16 = omega arith
size_some W32 = omega arith
size_some W64 = omega arith
size_some W128 = omega arith
size_some Native = omega arith

pub size_few : (size : IntSize) → size_bytes size ≤ 16
size_few W8 = omega arith
size_few W16 = omega arith
size_few W32 = omega arith
size_few W64 = omega arith
size_few W128 = omega arith
size_few Native = omega arith

pub size_power : (size : IntSize) → 256 ^ size_bytes size ≡ 2 ^ size_bits size
size_power W8 = refl
size_power W16 = refl
size_power W32 = refl
size_power W64 = refl
size_power W128 = refl
size_power Native = refl

pub float_power : (size : FloatSize) → 256 ^ float_bytes size ≡ 2 ^ float_bits size
float_power floats.W32 = refl
float_power floats.W64 = refl

module _ (t : Map) (left w s : ℕ) (from : List ℕ) (y : Val3) (are : AreBytes from) where
  pub uint_found : (size : IntSize) → uint_at size s from ≡ done y → FoundVal t left (slots.One (kinds.Uint size)) w s y.1 y.0 from y.2
  unfolding bytes_val
  uint_found size e =
      let b = bound (number_at (size_bytes size) from) (λ r. Ok (uint r.0, s, r.1)) y e in
      let n = number_found (size_bytes size) from b.0 are b.1 in
      let small : b.0.0 < 2 ^ size_bits size = subst (λ (m : ℕ). b.0.0 < m) (size_power size) n.small in
      val_to t left (slots.One (kinds.Uint size)) w s from (uint b.0.0, s, b.0.1) y
      (record { fits = record { size = size; slot_is = refl; in_range = small }; sound = tt; lengths = tt; sums = leaf s; carries = n.carries }) b.2

  pub int_found : (size : IntSize) → int_at size s from ≡ done y → FoundVal t left (slots.One (kinds.Int size)) w s y.1 y.0 from y.2
  unfolding bytes_val
  int_found size e =
      let k : ℕ = size_bytes size in
      let a = bound (signed_at k from) (λ r. Ok (int r.0, s, r.1)) y e in
      let b = bound (number_at k from) (λ r. Ok (twos_complement k r.0, r.1)) a.0 a.1 in
      let n = number_found k from b.0 are b.1 in
      let z = twos k b.0.0 (size_some size) (size_few size) n.small in
      let i : FoundVal t left (slots.One (kinds.Int size)) w s s (int (twos_complement k b.0.0)) from b.0.1 = record {
        fits = record { size = size; slot_is = refl; in_range = subst (λ (m : ℕ). IsSigned m (twos_complement k b.0.0)) (sym (size_is size)) z.signed };
        sound = tt;
        lengths = tt;
        sums = leaf s;
        carries = n.carries ∙ ap (λ (x : List ℕ). x ++ b.0.1) z.bytes;
      } in
      val_to t left (slots.One (kinds.Int size)) w s from (int a.0.0, s, a.0.1) y
      (subst (λ (p : ℤ × List ℕ). FoundVal t left (slots.One (kinds.Int size)) w s s (int p.0) from p.1) (same (twos_complement k b.0.0, b.0.1) a.0 b.2) i) a.2

  flag_is : (n : ℕ) (b : Bool) → flag_of n ≡ done b → little_bytes 1 n ≡ flag_byte b ∷ []
  flag_is zero b h = ap (λ (x : Bool). flag_byte x ∷ []) (same false b h)
  flag_is (suc zero) b h = ap (λ (x : Bool). flag_byte x ∷ []) (same true b h)
  flag_is (suc (suc n)) b h = absurd (cc)

  pub flag_found : flag_at s from ≡ done y → FoundVal t left (slots.One kinds.Bool) w s y.1 y.0 from y.2
  unfolding bytes_val
  flag_found e =
      let a = bound (number_at 1 from) (λ r. flag_of r.0 ⇒ λ b. Ok (flag b, s, r.1)) y e in
      let b = bound (flag_of a.0.0) (λ b. Ok (flag b, s, a.0.1)) y a.2 in
      let n = number_found 1 from a.0 are a.1 in
      val_to t left (slots.One kinds.Bool) w s from (flag b.0, s, a.0.1) y
      (record { fits = refl; sound = tt; lengths = tt; sums = leaf s; carries = n.carries ∙ ap (λ (x : List ℕ). x ++ a.0.1) (flag_is a.0.0 b.0 b.1) }) b.2

  pub char_found : char_at s from ≡ done y → FoundVal t left (slots.One kinds.Char) w s y.1 y.0 from y.2
  unfolding bytes_val
  char_found e =
      let a = bound (number_at 4 from) (λ r. char_of r.0 ⇒ λ c. Ok (char c, s, r.1)) y e in
      let b = bound (char_of a.0.0) (λ c. Ok (char c, s, a.0.1)) y a.2 in
      let n = number_found 4 from a.0 are a.1 in
      let c = chosen (scalar a.0.0) a.0.0 causes.BadChar b.0 b.1 in
      val_to t left (slots.One kinds.Char) w s from (char b.0, s, a.0.1) y
      (record {
        fits = refl;
        sound = subst (λ (m : ℕ). IsScalar m) c.1 c.0;
        lengths = tt;
        sums = leaf s;
        carries = n.carries ∙ ap (λ (m : ℕ). little_bytes 4 m ++ a.0.1) c.1;
      }) b.2

  -- bytes behind their number
  counted : (r : List ℕ × List ℕ) → bytes_at from ≡ done r → (length r.0 < 2 ^ 32) × (from ≡ (little_bytes 4 (length r.0) ++ r.0) ++ r.1)
  counted r e =
      let b = bound (number_at 4 from) (λ n. chunk_at n.0 n.1) r e in
      let n = number_found 4 from b.0 are b.1 in
      let c = chunk_found b.0.0 b.0.1 r b.2 in
      let is : from ≡ (little_bytes 4 (length r.0) ++ r.0) ++ r.1 =
      n.carries ∙ ap (λ (x : List ℕ). little_bytes 4 b.0.0 ++ x) c.carries ∙ ap (λ (m : ℕ). little_bytes 4 m ++ (r.0 ++ r.1)) (sym c.size) ∙ sym (append_assoc (little_bytes 4 (length r.0)) r.0 r.1) in
      (subst (λ (m : ℕ). m < 2 ^ 32) (sym c.size) n.small, is)

  pub str_found : str_at s from ≡ done y → FoundVal t left (slots.One kinds.Str) w s y.1 y.0 from y.2
  unfolding bytes_val
  str_found e =
      let a = bound (text_at from) (λ r. Ok (str r.0, s, r.1)) y e in
      let b = bound (bytes_at from) (λ r. text_of r.0 ⇒ λ text. Ok (text, r.1)) a.0 a.1 in
      let d = bound (text_of b.0.0) (λ text. Ok (text, b.0.1)) a.0 b.2 in
      let u = chosen (is_utf8 b.0.0) b.0.0 causes.BadText d.0 d.1 in
      let k : b.0 ≡ a.0 = ap (λ (x : List ℕ). (x, b.0.1)) u.1 ∙ same (d.0, b.0.1) a.0 d.2 in
      let n = counted b.0 b.1 in
      let i : FoundVal t left (slots.One kinds.Str) w s s (str b.0.0) from b.0.1 = record { fits = inl refl; sound = IsUtf8-from_is_utf8 b.0.0 u.0; lengths = n.0; sums = leaf s; carries = n.1 } in
      val_to t left (slots.One kinds.Str) w s from (str a.0.0, s, a.0.1) y
      (subst (λ (p : List ℕ × List ℕ). FoundVal t left (slots.One kinds.Str) w s s (str p.0) from p.1) k i) a.2

  -- a text of Debug or Display
  pub shown_found : (slot : Slot) → IsText slot → ((x : List ℕ) → text_bytes slot x ≡ x ++ text_end ∷ []) → ((n : ℕ) → TextFits slot n) → shown_at s from ≡ done y → FoundVal t left slot w s y.1 y.0 from y.2
  unfolding bytes_val
  shown_found slot is ends long e =
      let a = bound (shown_text_at from) (λ r. Ok (str r.0, s, r.1)) y e in
      let b = bound (ended_at from) (λ r. text_of r.0 ⇒ λ text. Ok (text, r.1)) a.0 a.1 in
      let d = bound (text_of b.0.0) (λ text. Ok (text, b.0.1)) a.0 b.2 in
      let u = chosen (is_utf8 b.0.0) b.0.0 causes.BadText d.0 d.1 in
      let k : b.0 ≡ a.0 = ap (λ (x : List ℕ). (x, b.0.1)) u.1 ∙ same (d.0, b.0.1) a.0 d.2 in
      let n = ended_found from b.0 b.1 in
      let i : FoundVal t left slot w s s (str b.0.0) from b.0.1 = record {
        fits = is;
        sound = IsUtf8-from_is_utf8 b.0.0 u.0;
        lengths = long (length b.0.0);
        sums = leaf s;
        carries = n.carries ∙ ap (λ (x : List ℕ). x ++ b.0.1) (sym (ends b.0.0));
      } in
      val_to t left slot w s from (str a.0.0, s, a.0.1) y
      (subst (λ (p : List ℕ × List ℕ). FoundVal t left slot w s s (str p.0) from p.1) k i) a.2

  pub float_found : (size : FloatSize) → float_at size s from ≡ done y → FoundVal t left (slots.One (kinds.Float size)) w s y.1 y.0 from y.2
  unfolding bytes_val
  float_found size e =
      let b = bound (number_at (float_bytes size) from) (λ r. Ok (float r.0, s, r.1)) y e in
      let n = number_found (float_bytes size) from b.0 are b.1 in
      let small : b.0.0 < 2 ^ float_bits size = subst (λ (m : ℕ). b.0.0 < m) (float_power size) n.small in
      val_to t left (slots.One (kinds.Float size)) w s from (float b.0.0, s, b.0.1) y
      (record { fits = record { size = size; slot_is = refl; in_range = small }; sound = tt; lengths = tt; sums = leaf s; carries = n.carries }) b.2

  pub istr_found : istr_at t s from ≡ done y → FoundVal t left (slots.One kinds.Istr) w s y.1 y.0 from y.2
  unfolding bytes_val
  istr_found e =
      let a = bound (number_at 2 from) (λ i. interned_of (look t i.0) ⇒ λ _. Ok (istr i.0, s, i.1)) y e in
      let b = bound (interned_of (look t a.0.0)) (λ _. Ok (istr a.0.0, s, a.0.1)) y a.2 in
      let n = number_found 2 from a.0 are a.1 in
      val_to t left (slots.One kinds.Istr) w s from (istr a.0.0, s, a.0.1) y
      (record { fits = (refl, interned_found t a.0.0 b.1); sound = tt; lengths = tt; sums = leaf s; carries = n.carries }) b.2

  pub slice_found : slice_at s from ≡ done y → FoundVal t left (slots.One kinds.Bytes) w s y.1 y.0 from y.2
  unfolding bytes_val
  slice_found e =
      let a = bound (bytes_at from) (λ r. Ok (bytes r.0, s, r.1)) y e in
      let n = counted a.0 a.1 in
      val_to t left (slots.One kinds.Bytes) w s from (bytes a.0.0, s, a.0.1) y
      (record { fits = inl refl; sound = part_sound (little_bytes 4 (length a.0.0)) a.0.0 a.0.1 from are n.1; lengths = n.0; sums = leaf s; carries = n.1 }) a.2

  pub array_found : (count : ℕ) → array_at count s from ≡ done y → FoundVal t left (slots.One (kinds.ByteArray count)) w s y.1 y.0 from y.2
  unfolding bytes_val
  array_found count e =
      let a = bound (chunk_at count from) (λ r. Ok (bytes r.0, s, r.1)) y e in
      let c = chunk_found count from a.0 a.1 in
      val_to t left (slots.One (kinds.ByteArray count)) w s from (bytes a.0.0, s, a.0.1) y
      (record { fits = inr (ap (λ (m : ℕ). slots.One (kinds.ByteArray m)) (sym c.size)); sound = part_sound [] a.0.0 a.0.1 from are c.carries; lengths = tt; sums = leaf s; carries = c.carries }) a.2

  pub window_found : (first width : ℕ) → window_at first width s from ≡ done y → FoundVal t left (slots.Bits first width) w s y.1 y.0 from y.2
  unfolding bytes_val
  window_found first width e =
      let a = bound (number_at width from) (λ r. Ok (bits (r.0 * 256 ^ first), s, r.1)) y e in
      let i = number_found width from a.0 are a.1 in
      let m : ℕ = a.0.0 in
      let n : ℕ = m * 256 ^ first in
      let pos : 0 < 256 ^ first = some first in
      let lt : m * 256 ^ first < 256 ^ width * 256 ^ first = mul-lt-mul_of_pos_right i.small pos in
      let p : 256 ^ (first + width) ≡ 256 ^ first * 256 ^ width = pow-add 256 first width in
      let z : (m * 256 ^ first + 0) % 256 ^ first ≡ 0 % 256 ^ first = mul-add-mod_self_right m (256 ^ first) 0 in
      let z0 : 0 % 256 ^ first ≡ 0 = mod-eq_of_lt pos in
      let z1 : n % 256 ^ first ≡ 0 = sym (ap (λ (x : ℕ). x % 256 ^ first) (add-zero n)) ∙ z ∙ z0 in
      let back : m ≡ n / 256 ^ first = sym (mul-div_cancel m pos) in
      val_to t left (slots.Bits first width) w s from (bits n, s, a.0.1) y
      (record {
        fits = record { first = first; width = width; slot_is = refl; below = omega (arith, lt, p); above = z1 };
        sound = tt;
        lengths = tt;
        sums = leaf s;
        carries = i.carries ∙ ap (λ (x : ℕ). little_bytes width x ++ a.0.1) back;
      }) a.2
