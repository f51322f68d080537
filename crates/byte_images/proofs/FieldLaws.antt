-- Numbers at places, and where they stand between other bytes.
use Rattle.std.proofs.Common.{◌≡◌, ◌≤◌, ◌<◌, ◌+◌, ◌-◌, ◌^◌, ℕ, zero, suc, List, ◌++◌, length, take, drop, get_or, refl, sym, ap, ◌∙◌, arith}
use Rattle.std.proofs.lemmas.List.{take_rest, get_or-drop, drop_at, get_or_append_left}
use Rattle.byteorder.specs.Endian.{little_from, little_number, little_bytes}
use Rattle.byteorder.specs.Numbers.{little_number-reads_back}
use Rattle.byte_images.specs.Fields.{number}

little_from-drop : (i n at : ℕ) (bytes : List ℕ) → little_from i n (drop at bytes) ≡ little_from (at + i) n bytes
little_from-drop i zero at bytes = refl
little_from-drop i (suc n) at bytes =
    let head : get_or (drop at bytes) i 0 ≡ get_or bytes (at + i) 0 = get_or-drop at bytes i 0 in
    let ih = little_from-drop (suc i) n at bytes in
    let moved : at + suc i ≡ suc (at + i) = omega arith in
    rw (head, ih, moved) refl

-- what is read of the bytes from a place on
pub number_found : (at size r : ℕ) (bytes : List ℕ) → r ≡ little_number size (take (length bytes - at) (drop at bytes)) → r ≡ number at size bytes
unfolding number
number_found at size r bytes e =
    e ∙ ap (little_number size) (take_rest bytes at) ∙ little_from-drop 0 size at bytes ∙ ap (λ (i : ℕ). little_from i size bytes) (let k : at + 0 ≡ at = omega arith in k)

-- a number behind a front
pub number_behind : (front back : List ℕ) (n at size : ℕ) → length front ≡ n → number (n + at) size (front ++ back) ≡ number at size back
unfolding number
number_behind front back n at size e = sym (little_from-drop at size n (front ++ back)) ∙ ap (little_from at size) (drop_at front back n e)

little_from-front : (i n : ℕ) (front back : List ℕ) → i + n ≤ length front → little_from i n (front ++ back) ≡ little_from i n front
little_from-front i zero front back h = refl
little_from-front i (suc n) front back h =
    let head : get_or (front ++ back) i 0 ≡ get_or front i 0 = get_or_append_left front back 0 i (omega arith) in
    let rest = little_from-front (suc i) n front back (omega arith) in
    rw (head, rest) refl

-- a number in the front
pub number_front : (at size : ℕ) (front back : List ℕ) → at + size ≤ length front → number at size (front ++ back) ≡ number at size front
unfolding number
number_front at size front back h = little_from-front at size front back h

-- a number of so many bytes, at their place
pub number_back : (size x : ℕ) (rest : List ℕ) → x < 256 ^ size → number 0 size (little_bytes size x ++ rest) ≡ x
unfolding number
number_back size x rest h = little_number-reads_back size x rest h
