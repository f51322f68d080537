-- Fields read from the front of bytes, or the cause for which there are none.
use Rattle.std.specs.Prelude.{◌==◌, ℕ, ℤ, zero, suc, Bool, true, false, nat_le, List, [], ◌∷◌, length, take, drop, Result, Ok, Err, if◌then◌else◌}
use Rattle.std.specs.Str.{is_utf8}
use lib.Utf8.{scalar}
use Rattle.byteorder.specs.Endian.{little_number, twos_complement}
use Rattle.defmt_encode.specs.Carry.{text_end}
use Rattle.defmt_encode.specs.declared.cause.Cause.{Cause}
use Rattle.defmt_encode.specs.declared.cause.Cause.TheVariants as causes

-- something that was read, or a cause
abbrev pub Read : Type 0 → Type 0
Read A = Result A Cause

infixl 10 ◌⇒◌
abbrev pub ◌⇒◌ : {A B : Type 0} → Read A → (A → Read B) → Read B
(Ok x) ⇒ f = f x
(Err e) ⇒ f = Err e

-- a number of so many bytes, and what follows
abbrev pub number_at : ℕ → List ℕ → Read (ℕ × List ℕ)
number_at width bytes =
    if nat_le width (length bytes) then Ok (little_number width bytes, drop width bytes)
    else Err causes.Short

-- the same in two's complement
abbrev pub signed_at : ℕ → List ℕ → Read (ℤ × List ℕ)
signed_at width bytes = number_at width bytes ⇒ λ r. Ok (twos_complement width r.0, r.1)

-- so many bytes, and what follows
abbrev pub chunk_at : ℕ → List ℕ → Read (List ℕ × List ℕ)
chunk_at n bytes =
    if nat_le n (length bytes) then Ok (take n bytes, drop n bytes) else Err causes.Short

abbrev pub flag_of : ℕ → Read Bool
flag_of zero = Ok false
flag_of (suc zero) = Ok true
flag_of (suc (suc n)) = Err causes.BadBool

abbrev pub char_of : ℕ → Read ℕ
char_of n = if scalar n then Ok n else Err causes.BadChar

abbrev pub text_of : List ℕ → Read (List ℕ)
text_of s = if is_utf8 s then Ok s else Err causes.BadText

-- the number of bytes, and the bytes
abbrev pub bytes_at : List ℕ → Read (List ℕ × List ℕ)
bytes_at bytes = number_at 4 bytes ⇒ λ n. chunk_at n.0 n.1

abbrev pub text_at : List ℕ → Read (List ℕ × List ℕ)
text_at bytes = bytes_at bytes ⇒ λ s. text_of s.0 ⇒ λ text. Ok (text, s.1)

-- the bytes in front of the first end of a text, and what follows that
abbrev pub ended_at : List ℕ → Read (List ℕ × List ℕ)
ended_at [] = Err causes.Short
ended_at (b ∷ bytes) =
    if b == text_end then Ok ([], bytes) else (ended_at bytes ⇒ λ s. Ok (b ∷ s.0, s.1))

abbrev pub shown_text_at : List ℕ → Read (List ℕ × List ℕ)
shown_text_at bytes = ended_at bytes ⇒ λ s. text_of s.0 ⇒ λ text. Ok (text, s.1)
