-- What carries a value reads as it: values without values inside, entries and variants.
use Rattle.std.proofs.Common.{◌≡◌, ◌<◌, ◌≤◌, ◌^◌, ◌+◌, ◌-◌, ◌*◌, ◌/◌, ◌%◌, ℕ, zero, suc, ℤ, Bool, true, false, List, [], ◌∷◌, ◌++◌, length, Option, Some, None, refl, sym, ap, ◌∙◌, subst, arith, append_assoc, add-zero, pow-add}
use Rattle.std.proofs.lemmas.Bool.{le-leb}
use Rattle.std.proofs.Math.Nat.{div-add-mod, div-lt_iff_lt-mul}
use Rattle.std.proofs.Math.Utf8.{scalar_fits}
use Rattle.std.specs.Char.{IsScalar}
use Rattle.std.specs.Str.{IsUtf8}
use Rattle.std.specs.Int.{w128, cast_unsigned}
use Rattle.byteorder.specs.Endian.{little_bytes}
use Rattle.defmt_grammar.specs.Sizes.{size_bits, float_bits, float_bytes, IsSigned}
use Rattle.defmt_grammar.specs.declared.kind.FloatSize.{FloatSize}
use Rattle.defmt_grammar.specs.declared.kind.IntSize.{IntSize}
use Rattle.defmt_grammar.specs.declared.piece.Piece.{Piece}
use Rattle.defmt_intern.specs.Table.{Map}
use Rattle.defmt_intern.specs.declared.parsed.Parsed.{Parsed}
use Rattle.defmt_values.specs.Fits.{IsInterned, HasPieces}
use Rattle.defmt_values.specs.Plain.{Val, uint, int, flag, char, str, istr, bytes, bits, float}
use Rattle.defmt_values.proofs.Forms.{index_small, variant_small}
use Rattle.defmt_values.proofs.Powers.{some}
use Rattle.defmt_encode.specs.Carry.{size_bytes, flag_byte, text_end, variant_byte}
use Rattle.defmt_encode.specs.Read.{Read, ◌⇒◌, number_at, chunk_at, bytes_at, uint_at, int_at, flag_at, char_at, str_at, float_at, shown_at, istr_at, slice_at, array_at, window_at, add, variant_of, some_at, list_at, value_at, below}
use Rattle.defmt_encode.proofs.Chains.{done}
use Rattle.defmt_encode.proofs.Ends.{no_end, ended_back}
use Rattle.defmt_encode.proofs.Entries.{interned_back}
use Rattle.defmt_encode.proofs.Finds.{size_is, size_some, size_few, size_power, float_power}
use Rattle.defmt_encode.proofs.FindsAll.{one_byte}
use Rattle.defmt_encode.proofs.Numbers.{number_back, chunk_back, is_text}
use Rattle.defmt_encode.proofs.Signed.{complement, complements}

-- a value that adds no weight
pub keeps : (v : Val) (s : ℕ) (rest : List ℕ) (q : Read (Val × ℕ × List ℕ)) → q ≡ done (v, s, rest) → q ≡ done (v, s + 0, rest)
keeps v s rest q h = h ∙ ap (λ n. done (v, n, rest)) (sym (add-zero s))

module _ (s : ℕ) (rest : List ℕ) where
  pub uint_back : (size : IntSize) (n : ℕ) → n < 2 ^ size_bits size → uint_at size s (little_bytes (size_bytes size) n ++ rest) ≡ done (uint n, s, rest)
  uint_back size n h =
      let small : n < 256 ^ size_bytes size = subst (λ (m : ℕ). n < m) (sym (size_power size)) h in
      rw (number_back (size_bytes size) n rest small) refl

  pub int_back : (size : IntSize) (z : ℤ) → IsSigned (size_bits size) z → int_at size s (little_bytes (size_bytes size) (cast_unsigned w128 z) ++ rest) ≡ done (int z, s, rest)
  int_back size z h =
      let k : ℕ = size_bytes size in
      let c = complements k z (size_some size) (size_few size) (subst (λ (m : ℕ). IsSigned m z) (size_is size) h) in
      rw (c.bytes, number_back k (complement k z) rest c.small, c.back) refl

  pub flag_back : (b : Bool) → flag_at s (flag_byte b ∷ rest) ≡ done (flag b, s, rest)
  flag_back true = let e : number_at 1 (1 ∷ rest) ≡ done (1, rest) = number_back 1 1 rest (omega arith) in rw e refl
  flag_back false = let e : number_at 1 (0 ∷ rest) ≡ done (0, rest) = number_back 1 0 rest (omega arith) in rw e refl

  pub char_back : (c : ℕ) → IsScalar c → char_at s (little_bytes 4 c ++ rest) ≡ done (char c, s, rest)
  char_back c h = rw (number_back 4 c rest (scalar_fits c h), h) refl

  pub counted_back : (t : List ℕ) → length t < 2 ^ 32 → bytes_at ((little_bytes 4 (length t) ++ t) ++ rest) ≡ done (t, rest)
  counted_back t h =
      ap (λ (x : List ℕ). bytes_at x) (append_assoc (little_bytes 4 (length t)) t rest)
      ∙ ap (λ (q : Read (ℕ × List ℕ)). q ⇒ λ n. chunk_at n.0 n.1) (number_back 4 (length t) (t ++ rest) h) ∙ chunk_back t rest

  pub str_back : (t : List ℕ) → length t < 2 ^ 32 → IsUtf8 t → str_at s ((little_bytes 4 (length t) ++ t) ++ rest) ≡ done (str t, s, rest)
  str_back t h u = rw (counted_back t h, ← is_text t u) refl

  pub shown_back : (t : List ℕ) → IsUtf8 t → shown_at s ((t ++ text_end ∷ []) ++ rest) ≡ done (str t, s, rest)
  shown_back t u = rw (ended_back t rest (no_end t u), ← is_text t u) refl

  pub float_back : (size : FloatSize) (n : ℕ) → n < 2 ^ float_bits size → float_at size s (little_bytes (float_bytes size) n ++ rest) ≡ done (float n, s, rest)
  float_back size n h =
      let small : n < 256 ^ float_bytes size = subst (λ (m : ℕ). n < m) (sym (float_power size)) h in
      rw (number_back (float_bytes size) n rest small) refl

  pub slice_back : (t : List ℕ) → length t < 2 ^ 32 → slice_at s ((little_bytes 4 (length t) ++ t) ++ rest) ≡ done (bytes t, s, rest)
  slice_back t h = rw (counted_back t h) refl

  pub array_back : (t : List ℕ) → array_at (length t) s (t ++ rest) ≡ done (bytes t, s, rest)
  array_back t = rw (chunk_back t rest) refl

  pub istr_back : (t : Map) (i : ℕ) → IsInterned t i → istr_at t s (little_bytes 2 i ++ rest) ≡ done (istr i, s, rest)
  istr_back t i f = rw (number_back 2 i rest (index_small t i f.entry f.there), interned_back t i f) refl

  pub window_back : (first width n : ℕ) → n < 256 ^ (first + width) → n % 256 ^ first ≡ 0 → window_at first width s (little_bytes width (n / 256 ^ first) ++ rest) ≡ done (bits n, s, rest)
  window_back first width n lt e =
      let p : 256 ^ (first + width) ≡ 256 ^ first * 256 ^ width = pow-add 256 first width in
      let q : n < 256 ^ width * 256 ^ first = omega (arith, p, lt) in
      let r : n / 256 ^ first < 256 ^ width = (div-lt_iff_lt-mul {k = 256 ^ first} {x = n} {y = 256 ^ width} (some first)).1 q in
      let back : n / 256 ^ first * 256 ^ first ≡ n = omega (arith, div-add-mod n (256 ^ first), e) in
      rw (number_back width (n / 256 ^ first) rest r, back) refl

pub byte_back : (v : ℕ) (rest : List ℕ) → v < 256 → number_at 1 (v ∷ rest) ≡ done (v, rest)
byte_back v rest lt = ap (λ (x : List ℕ). number_at 1 (x ++ rest)) (sym (one_byte v lt)) ∙ number_back 1 v rest lt

pub variant_back : (form : Parsed) (variant : Option ℕ) (ps : List Piece) (rest : List ℕ) → HasPieces form variant ps → variant_of form (variant_byte variant ++ rest) ≡ done (variant, ps, rest)
variant_back form None ps rest h = rw h refl
variant_back form (Some v) ps rest h = rw (h.1, byte_back v rest (variant_small h.0 v ps h.2), h.2) refl

pub adds : (weight sum : ℕ) → sum + weight ≤ 8192 → add weight sum ≡ done (sum + weight)
adds weight sum h = rw (le-leb (sum + weight) 8192 h) refl

pub below_is : (t : Map) (left : ℕ) → 0 < left → below t left ≡ Some (value_at t (left - 1))
below_is t zero h = absurd (omega arith)
below_is t (suc left) h = let e : left ≡ suc left - 1 = omega arith in ap (λ n. Some (value_at t n)) e

pub some_is : (t : Map) (left count w s : ℕ) (from : List ℕ) → 0 < left → 0 < count → some_at t (below t left) count w s from ≡ list_at t (value_at t (left - 1)) count w s from
some_is t left zero w s from h k = absurd (omega arith)
some_is t left (suc n) w s from h k = rw (below_is t left h) refl
