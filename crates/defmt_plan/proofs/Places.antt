-- Numbers and texts in bytes behind a place.
use Rattle.std.proofs.Common.{◌≡◌, ◌≤◌, ◌+◌, ◌-◌, ℕ, suc, List, [], ◌∷◌, ◌++◌, length, take, drop, length-drop, Ok, refl, sym, ap, subst, ◌∙◌, arith, Fits, w8, slice_index_or}
use Rattle.std.proofs.lemmas.Bool.{le-leb}
use Rattle.std.proofs.lemmas.List.{take-append-drop, take_all, drop-drop, length-take-le}
use Rattle.byteorder.specs.Endian.{little_bytes, little_number}
use Rattle.defmt_encode.proofs.Numbers.{AreBytes, bytes_after, number_found}
use Rattle.defmt_encode.specs.Fields.{IsNumber}
use Rattle.defmt_encode.specs.Read.{number_at}
use Rattle.defmt_plan.proofs.Carrying.{carried_two}
use Rattle.defmt_plan.specs.Carried.{Carried}

-- ---- bytes behind a place

pub are_bytes : (xs : List ℕ) → ((i : ℕ) → Fits w8 (slice_index_or xs i 0)) → AreBytes xs
are_bytes [] h = tt
are_bytes (x ∷ xs) h = (let k = h 0 in omega (arith, k), are_bytes xs (λ i. h (suc i)))

bytes_behind : (at : ℕ) (xs : List ℕ) → AreBytes xs → AreBytes (drop at xs)
bytes_behind at xs h = bytes_after (take at xs) (drop at xs) (subst (λ (t : List ℕ). AreBytes t) (sym (take-append-drop at xs)) h)

number_is : (k : ℕ) (xs : List ℕ) → AreBytes xs → k ≤ length xs → IsNumber k (little_number k xs) xs (drop k xs)
number_is k xs h le =
    let e : number_at k xs ≡ Ok (little_number k xs, drop k xs) = rw (le-leb k (length xs) le) refl in
    number_found k xs (little_number k xs, drop k xs) h e

-- the number that was read in the bytes behind a place
pub number_there : (k w at n : ℕ) (xs part : List ℕ) → ((i : ℕ) → Fits w8 (slice_index_or xs i 0)) → at ≤ length xs → w ≡ k → w ≤ length xs - at → part ≡ take (length xs - at) (drop at xs) → n ≡ little_number k part → Carried xs at (at + w) (little_bytes w n)
number_there k w at n xs part h le e room p q =
    let size : length (drop at xs) ≡ length xs - at = omega (arith, length-drop at xs) in
    let whole : part ≡ drop at xs = p ∙ take_all (length xs - at) (drop at xs) (omega arith) in
    let i : IsNumber k (little_number k (drop at xs)) (drop at xs) (drop k (drop at xs)) = number_is k (drop at xs) (bytes_behind at xs (are_bytes xs h)) (omega arith) in
    record {
      within = omega arith;
      parts = i.carries
          ∙ ap (λ (m : ℕ). little_bytes k m ++ drop k (drop at xs)) (ap (λ (t : List ℕ). little_number k t) (sym whole) ∙ sym q)
          ∙ ap (λ (t : List ℕ). little_bytes k n ++ t) (drop-drop k at xs)
          ∙ ap (λ (j : ℕ). little_bytes j n ++ drop (at + j) xs) (sym e);
    }

-- ---- a text behind its length

part_there : (xs : List ℕ) (at n : ℕ) → n ≤ length xs - at → at ≤ length xs → Carried xs at (at + n) (take n (drop at xs))
part_there xs at n room le = record {
  within = omega arith;
  parts = sym (take-append-drop n (drop at xs)) ∙ ap (λ (t : List ℕ). take n (drop at xs) ++ t) (drop-drop n at xs);
}

pub text_there : (xs s : List ℕ) (at n : ℕ) → Carried xs at (at + 4) (little_bytes 4 n) → n ≤ length xs - (at + 4) → s ≡ take (at + 4 + n - (at + 4)) (drop (at + 4) xs) → Carried xs at (at + 4 + length s) (little_bytes 4 (length s) ++ s)
text_there xs s at n c room e =
    let le : at + 4 ≤ length xs = c.within in
    let k : at + 4 + n - (at + 4) ≡ n = omega arith in
    let text : s ≡ take n (drop (at + 4) xs) = e ∙ ap (λ (m : ℕ). take m (drop (at + 4) xs)) k in
    let size : length s ≡ n = ap length text ∙ length-take-le n (drop (at + 4) xs) (omega (arith, length-drop (at + 4) xs, room)) in
    let both : Carried xs at (at + 4 + n) (little_bytes 4 n ++ take n (drop (at + 4) xs)) = carried_two xs at (at + 4) (at + 4 + n) (little_bytes 4 n) (take n (drop (at + 4) xs)) c (part_there xs (at + 4) n room le) in
    let there : Carried xs at (at + 4 + length s) (little_bytes 4 (length s) ++ take n (drop (at + 4) xs)) = subst (λ (m : ℕ). Carried xs at (at + 4 + m) (little_bytes 4 m ++ take n (drop (at + 4) xs))) (sym size) both in
    subst (λ (t : List ℕ). Carried xs at (at + 4 + length s) (little_bytes 4 (length s) ++ t)) (sym text) there
