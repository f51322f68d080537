-- Numbers of some bytes.
use Rattle.std.proofs.Common.{◌≡◌, ◌<◌, ◌≤◌, ◌^◌, ◌+◌, ◌*◌, ◌/◌, ◌%◌, ℕ, zero, suc, Bool, true, false, nat_le, List, [], ◌∷◌, ◌++◌, length, get_or, take, drop, Ok, Err, refl, sym, ap, ◌∙◌, subst, arith, lit<, lit≤, length-append, pow-add, mod-lt}
use Rattle.std.proofs.Math.ListN.{set, drop_of_length-le}
use Rattle.std.proofs.Math.Nat.{pow-le-pow_right, pow-suc, pow-succ', mul-le-mul_right, div-div-eq-div-mul, div-one}
use Rattle.std.proofs.Math.Arith.{mod-mul}
use Rattle.std.proofs.lemmas.Nat.{div-mul-add, mod-mul-add}
use Rattle.std.proofs.lemmas.Bool.{le-leb, leb-true, leb-false, lt-leb}
use Rattle.std.proofs.lemmas.List.{append-nil, take_all, take_more_set, drop_at, take-append-drop, length-take-le}
use Rattle.std.proofs.Math.Seq.{take-append_seam, drop-append_seam}
use Rattle.std.specs.Str.{is_utf8, IsUtf8}
use Rattle.std.proofs.lemmas.Str.{IsUtf8-from_is_utf8, is_utf8-from_IsUtf8}
use Rattle.std.specs.Int.{byte_at, bytes_low_first}
use Rattle.std.specs.List.{AllByRecursion}
use Rattle.byteorder.specs.Endian.{little_bytes, little_number}
use Rattle.byteorder.specs.Numbers.{little_from-cons, little_number-reads_back, length-bytes_low_first, little_from-lt}
use Rattle.defmt_values.proofs.Powers.{some}
use Rattle.defmt_encode.specs.Fields.{IsNumber, IsChunk}
use Rattle.defmt_encode.specs.Met.{IsCut}
use Rattle.defmt_encode.proofs.Chains.{done, refused, chosen, not_chosen}
use Rattle.defmt_encode.specs.Read.{number_at, chunk_at, text_of}
use Rattle.defmt_encode.specs.declared.cause.Cause.{Cause}
use Rattle.defmt_encode.specs.declared.cause.Cause.TheVariants as causes

-- ---- the bytes of a number

byte_shift : (i n : ℕ) → byte_at (suc i) n ≡ byte_at i (n / 256)
byte_shift zero n = refl
byte_shift (suc i) n =
    let p : 256 ^ suc (suc i) ≡ 256 * 256 ^ suc i = pow-succ' 256 (suc i) in
    let d : n / 256 / 256 ^ suc i ≡ n / (256 * 256 ^ suc i) = div-div-eq-div-mul n 256 (256 ^ suc i) in
    ap (λ m. m % 256) (ap (λ m. n / m) p ∙ sym d)

little_shift : (i k n : ℕ) → bytes_low_first (suc i) k n ≡ bytes_low_first i k (n / 256)
little_shift i zero n = refl
little_shift i (suc k) n = ap (λ b. b ∷ bytes_low_first (suc (suc i)) k n) (byte_shift i n) ∙ ap (λ bs. byte_at i (n / 256) ∷ bs) (little_shift (suc i) k n)

pub little_more : (k n : ℕ) → little_bytes (suc k) n ≡ n % 256 ∷ little_bytes k (n / 256)
little_more k n = ap (λ bs. n % 256 ∷ bs) (little_shift 0 k n)

low_snoc : (i k n : ℕ) → bytes_low_first i (suc k) n ≡ bytes_low_first i k n ++ byte_at (i + k) n ∷ []
low_snoc i zero n = let e : i ≡ i + 0 = omega arith in ap (λ m. byte_at m n ∷ []) e
low_snoc i (suc k) n =
    let e : suc i + k ≡ i + suc k = omega arith in
    ap (λ bs. byte_at i n ∷ bs) (low_snoc (suc i) k n ∙ ap (λ m. bytes_low_first (suc i) k n ++ byte_at m n ∷ []) e)

byte_is : (k n : ℕ) → byte_at k n ≡ n / 256 ^ k % 256
byte_is zero n = ap (λ m. m % 256) (sym (div-one n))
byte_is (suc k) n = refl

little_snoc : (k n : ℕ) → little_bytes (suc k) n ≡ little_bytes k n ++ n / 256 ^ k % 256 ∷ []
little_snoc k n =
    let place : 0 + k ≡ k = omega arith in
    low_snoc 0 k n ∙ ap (λ m. bytes_low_first 0 k n ++ byte_at m n ∷ []) place ∙ ap (λ m. bytes_low_first 0 k n ++ m ∷ []) (byte_is k n)

-- the lowest bytes of a number are those of its lowest part
pub little_mod : (k n : ℕ) → little_bytes k (n % 256 ^ k) ≡ little_bytes k n
little_mod zero n = refl
little_mod (suc k) n =
    let q : ℕ = 256 ^ k in
    let high : ℕ = n / 256 % q in
    let low : n % 256 < 256 = mod-lt n (omega arith) in
    let parts : n % 256 ^ suc k ≡ high * 256 + n % 256 = ap (λ (m : ℕ). n % m) (pow-suc 256 k) ∙ mod-mul n {m = q} {c = 256} (some k) (omega arith) in
    ap (little_bytes (suc k)) parts ∙ little_more k (high * 256 + n % 256)
    ∙ ap (λ (m : ℕ). m ∷ little_bytes k ((high * 256 + n % 256) / 256)) (mod-mul-add high 256 (n % 256) low)
    ∙ ap (λ (m : ℕ). n % 256 ∷ little_bytes k m) (div-mul-add high 256 (n % 256) low)
    ∙ ap (λ (bs : List ℕ). n % 256 ∷ bs) (little_mod k (n / 256)) ∙ sym (little_more k n)

-- bytes of which there are as many as a number's lowest are these, where they were written in front
pub written_once : (k : ℕ) (old new : List ℕ) (n : ℕ) → length old ≡ k → new ≡ little_bytes k (n % 256 ^ k) ++ drop k old → new ≡ little_bytes (length old) n
written_once k old new n size is =
    is ∙ ap (λ (bs : List ℕ). little_bytes k (n % 256 ^ k) ++ bs) (drop_of_length-le old (omega (arith, size))) ∙ append-nil (little_bytes k (n % 256 ^ k)) ∙ little_mod k n ∙ ap (λ (m : ℕ). little_bytes m n) (sym size)

pub written_one : (old : List ℕ) (n : ℕ) → length old ≡ 1 → set old 0 (n % 256) ≡ little_bytes (length old) n
written_one [] n size = absurd (omega (arith, size))
written_one (x ∷ []) n size = refl
written_one (x ∷ (y ∷ ys)) n size = absurd (omega (arith, size))

-- the lowest bytes that a loop has written, and what is left of the number
pub record Written (bytes : List ℕ) (i n left : ℕ) : Type 0 where
  pub done : take i bytes ≡ little_bytes i n
  pub left_is : left ≡ n / 256 ^ i

pub written_more : (bytes : List ℕ) (i n left : ℕ) → i < length bytes → Written bytes i n left → Written (set bytes i (left % 256)) (i + 1) n (left / 256)
written_more bytes i n left h w =
    let next : i + 1 ≡ suc i = omega arith in
    let power : 256 ^ i * 256 ≡ 256 ^ (i + 1) = sym (pow-suc 256 i) ∙ ap (λ m. 256 ^ m) (sym next) in
    record {
      done = take_more_set bytes i (left % 256) h ∙ ap (λ l. l ++ left % 256 ∷ []) w.done
          ∙ ap (λ m. little_bytes i n ++ m % 256 ∷ []) w.left_is ∙ sym (little_snoc i n) ∙ ap (λ m. little_bytes m n) (sym next);
      left_is = ap (λ m. m / 256) w.left_is ∙ div-div-eq-div-mul n (256 ^ i) 256 ∙ ap (λ m. n / m) power;
    }

pub written_all : (bytes : List ℕ) (i n left size : ℕ) → length bytes ≡ i → i ≡ size → Written bytes i n left → bytes ≡ little_bytes size n
written_all bytes i n left size h e w = sym (take_all i bytes (omega (arith, h))) ∙ w.done ∙ ap (λ m. little_bytes m n) e

-- ---- a number in front of bytes

number_step : (k b : ℕ) (bytes : List ℕ) → little_number (suc k) (b ∷ bytes) ≡ b + 256 * little_number k bytes
number_step k b bytes = ap (λ m. b + 256 * m) (little_from-cons 0 k b bytes)

abbrev pub AreBytes : List ℕ → Type 0
AreBytes [] = Unit {0}
AreBytes (b ∷ bytes) = (b < 256) × AreBytes bytes

pub bytes_after : (a b : List ℕ) → AreBytes (a ++ b) → AreBytes b
bytes_after [] b h = h
bytes_after (x ∷ a) b h = bytes_after a b h.1

bytes_before : (a b : List ℕ) → AreBytes (a ++ b) → AreBytes a
bytes_before [] b h = tt
bytes_before (x ∷ a) b h = (h.0, bytes_before a b h.1)

all_bytes : (bytes : List ℕ) → AreBytes bytes → AllByRecursion (λ b. b < 256) bytes
all_bytes [] h = tt
all_bytes (b ∷ bytes) h = (h.0, all_bytes bytes h.1)

-- a part of bytes is bytes
pub part_sound : (front part rest bytes : List ℕ) → AreBytes bytes → bytes ≡ (front ++ part) ++ rest → AllByRecursion (λ b. b < 256) part
part_sound front part rest bytes h e = all_bytes part (bytes_after front part (bytes_before (front ++ part) rest (subst (λ (x : List ℕ). AreBytes x) e h)))

pub bytes_rest : (bytes front rest : List ℕ) → AreBytes bytes → bytes ≡ front ++ rest → AreBytes rest
bytes_rest bytes front rest h e = bytes_after front rest (subst (λ (x : List ℕ). AreBytes x) e h)

front_bytes : (k : ℕ) (bytes : List ℕ) → AreBytes bytes → k ≤ length bytes → take k bytes ≡ little_bytes k (little_number k bytes)
front_bytes zero bytes h le = refl
front_bytes (suc k) [] h le = absurd (omega arith)
front_bytes (suc k) (b ∷ bytes) h le =
    let m : ℕ = little_number k bytes in
    let n : ℕ = b + 256 * m in
    let lt : b < 256 = h.0 in
    let low : b ≡ n % 256 = omega (arith, lt) in
    let high : m ≡ n / 256 = omega (arith, lt) in
    let rest : take k bytes ≡ little_bytes k m = front_bytes k bytes h.1 (omega arith) in
    ap (λ (xs : List ℕ). b ∷ xs) rest ∙ ap (λ (x : ℕ). x ∷ little_bytes k m) low ∙ ap (λ (x : ℕ). n % 256 ∷ little_bytes k x) high
    ∙ sym (little_more k n) ∙ ap (λ (x : ℕ). little_bytes (suc k) x) (sym (number_step k b bytes))

each_small : (bytes : List ℕ) → AreBytes bytes → (i : ℕ) → get_or bytes i 0 < 256
each_small [] h i = omega arith
each_small (b ∷ bytes) h zero = h.0
each_small (b ∷ bytes) h (suc i) = each_small bytes h.1 i

pub number_small : (k : ℕ) (bytes : List ℕ) → AreBytes bytes → little_number k bytes < 256 ^ k
number_small k bytes h = little_from-lt 0 k bytes (each_small bytes h)

pub number_found : (k : ℕ) (bytes : List ℕ) (y : ℕ × List ℕ) → AreBytes bytes → number_at k bytes ≡ done y → IsNumber k y.0 bytes y.1
number_found k bytes y h q =
    let p = chosen (nat_le k (length bytes)) (little_number k bytes, drop k bytes) causes.Short y q in
    let is : IsNumber k (little_number k bytes) bytes (drop k bytes) = record {
      small = number_small k bytes h;
      carries = sym (take-append-drop k bytes) ∙ ap (λ (xs : List ℕ). xs ++ drop k bytes) (front_bytes k bytes h (leb-true k (length bytes) p.0));
    } in
    subst (λ (r : ℕ × List ℕ). IsNumber k r.0 bytes r.1) p.1 is

pub length_little : (k n : ℕ) → length (little_bytes k n) ≡ k
length_little k n = length-bytes_low_first 0 k n

pub number_back : (k n : ℕ) (rest : List ℕ) → n < 256 ^ k → number_at k (little_bytes k n ++ rest) ≡ Ok (n, rest)
number_back k n rest h =
    let size : length (little_bytes k n ++ rest) ≡ k + length rest = omega (arith, length-append (little_bytes k n) rest, length_little k n) in
    let le : k ≤ length (little_bytes k n ++ rest) = omega (arith, size) in
    let a : little_number k (little_bytes k n ++ rest) ≡ n = little_number-reads_back k n rest h in
    let b : drop k (little_bytes k n ++ rest) ≡ rest = drop_at (little_bytes k n) rest k (length_little k n) in
    rw (le-leb k (length (little_bytes k n ++ rest)) le, a, b) refl

-- ---- chunks

pub chunk_found : (n : ℕ) (bytes : List ℕ) (y : List ℕ × List ℕ) → chunk_at n bytes ≡ done y → IsChunk n y.0 bytes y.1
chunk_found n bytes y h =
    let p = chosen (nat_le n (length bytes)) (take n bytes, drop n bytes) causes.Short y h in
    let is : IsChunk n (take n bytes) bytes (drop n bytes) = record { size = length-take-le n bytes (leb-true n (length bytes) p.0); carries = sym (take-append-drop n bytes) } in
    subst (λ (r : List ℕ × List ℕ). IsChunk n r.0 bytes r.1) p.1 is

pub chunk_back : (s rest : List ℕ) → chunk_at (length s) (s ++ rest) ≡ Ok (s, rest)
chunk_back s rest =
    let k : length s ≤ length (s ++ rest) = omega (arith, length-append s rest) in
    let a : take (length s) (s ++ rest) ≡ s = take-append_seam s rest in
    let b : drop (length s) (s ++ rest) ≡ rest = drop-append_seam s rest in
    rw (le-leb (length s) (length (s ++ rest)) k, a, b) refl

-- ---- texts

pub is_text : (s : List ℕ) → IsUtf8 s → Ok s ≡ text_of s
is_text s h = rw (is_utf8-from_IsUtf8 s h) refl

no_text_by : (s : List ℕ) (b : Bool) → is_utf8 s ≡ b → (IsUtf8 s → ⊥) → Err causes.BadText ≡ text_of s
no_text_by s true e h = absurd (h (IsUtf8-from_is_utf8 s e))
no_text_by s false e h = rw e refl

pub is_no_text : (s : List ℕ) → (IsUtf8 s → ⊥) → Err causes.BadText ≡ text_of s
is_no_text s h = no_text_by s (is_utf8 s) refl h

-- ---- powers

upto : (w : ℕ) → w ≤ 16 → 256 ^ w ≤ 2 ^ 128
upto w h = let p : 256 ^ w ≤ 256 ^ 16 = pow-le-pow_right (lit< tt) h in let q : 256 ^ 16 ≤ 2 ^ 128 = lit≤ tt in omega (arith, p, q)

pub product_fits : (n first width : ℕ) → n < 256 ^ width → first + width ≤ 16 → n * 256 ^ first < 2 ^ 128
product_fits n first width hn h =
    let a : (n + 1) * 256 ^ first ≤ 256 ^ width * 256 ^ first = mul-le-mul_right (256 ^ first) (omega arith) in
    let b : 256 ^ (width + first) ≡ 256 ^ width * 256 ^ first = pow-add 256 width first in
    let k : width + first ≤ 16 = omega arith in
    let c : 0 < 256 ^ first = some first in
    omega (arith, a, b, c, upto (width + first) k)

-- ---- fields that are cut off

pub number_cut : (k : ℕ) (from : List ℕ) (c : Cause) → number_at k from ≡ refused (ℕ × List ℕ) c → IsCut k from c
number_cut k from c h = let p = not_chosen (nat_le k (length from)) (little_number k from, drop k from) causes.Short c h in (leb-false k (length from) p.0, sym p.1)

pub chunk_cut : (n : ℕ) (from : List ℕ) (c : Cause) → chunk_at n from ≡ refused (List ℕ × List ℕ) c → IsCut n from c
chunk_cut n from c h = let p = not_chosen (nat_le n (length from)) (take n from, drop n from) causes.Short c h in (leb-false n (length from) p.0, sym p.1)

pub cut_number : (k : ℕ) (from : List ℕ) (c : Cause) → IsCut k from c → number_at k from ≡ refused (ℕ × List ℕ) c
cut_number k from c m = rw (lt-leb k (length from) m.0, m.1) refl

pub cut_chunk : (n : ℕ) (from : List ℕ) (c : Cause) → IsCut n from c → chunk_at n from ≡ refused (List ℕ × List ℕ) c
cut_chunk n from c m = rw (lt-leb n (length from) m.0, m.1) refl
