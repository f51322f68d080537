-- The digits in front.
use Rattle.std.proofs.Common.{◌≡◌, ◌<◌, ◌≤◌, ℕ, suc, zero, Bool, true, false, cond, List, [], ◌∷◌, ◌++◌, length, get_or, take, drop, refl, sym, ap, arith, Bor, add-one}
use Rattle.std.specs.Char.{is_ascii_digit}
use Rattle.std.specs.Int.{IsInRange}
use Rattle.std.specs.Str.{IsUtf8, IsCharBoundary, all_ascii_digits}
use Rattle.std.proofs.lemmas.Str.{IsCharBoundary-start, IsCharBoundary-after_ascii}
use Rattle.std.proofs.lemmas.Str.Parse.{tells_all_ascii_digits}
use Rattle.std.proofs.lemmas.Bool.{and_parts}
use Rattle.defmt_grammar.specs.Cut.{lead}
use Rattle.defmt_grammar.specs.Param.{both_now}

one_digit : (d : ℕ) → is_ascii_digit d ≡ true → IsInRange 48 57 d
one_digit d h = (tells_all_ascii_digits.parts d [] (rw h refl)).0

pub digits_boundary : (text : List ℕ) (i : ℕ) → IsUtf8 text → i ≤ length text → ((k : ℕ) → k < i → is_ascii_digit (get_or text k 0) ≡ true) → IsCharBoundary text i
digits_boundary text zero u le h = IsCharBoundary-start text u
digits_boundary text (suc i) u le h =
    let k = one_digit (get_or text i 0) (h i (omega arith)) in
    let b = IsCharBoundary-after_ascii text i u (omega arith) (omega (arith, k.1)) in
    rw (← add-one i) b

lead_take : (text : List ℕ) (i : ℕ) → i ≤ length text → ((k : ℕ) → k < i → is_ascii_digit (get_or text k 0) ≡ true) → (i < length text → is_ascii_digit (get_or text i 0) ≡ false) → lead text ≡ (take i text, drop i text)
unfolding lead
lead_take [] zero le h n = refl
lead_take [] (suc i) le h n = absurd (omega arith)
lead_take (c ∷ cs) zero le h n = rw (n (omega arith)) refl
lead_take (c ∷ cs) (suc i) le h n =
    let rest : lead cs ≡ (take i cs, drop i cs) = lead_take cs i (omega arith) (λ k lt. h (suc k) (omega arith)) (λ lt. n (omega arith)) in
    rw (h 0 (omega arith), rest) refl

pub lead_at : (text : List ℕ) (i : ℕ) (p : Bor (List ℕ) × Bor (List ℕ)) → i ≤ length text → ((k : ℕ) → k < i → is_ascii_digit (get_or text k 0) ≡ true) → (i < length text → is_ascii_digit (get_or text i 0) ≡ false) → p.0.now ≡ take i text → p.1.now ≡ drop i text → both_now p ≡ lead text
lead_at text i p le h n e f = rw (e, f) (sym (lead_take text i le h n))

abbrev led : Bool → ℕ → List ℕ → List ℕ × List ℕ
led b c cs = cond b (c ∷ (lead cs).0, (lead cs).1) ([], c ∷ cs)

-- the digits are digits, and nothing follows them that is one
lead_more : (c : ℕ) (cs : List ℕ) (b : Bool) → is_ascii_digit c ≡ b → (cs ≡ (lead cs).0 ++ (lead cs).1) × (all_ascii_digits (lead cs).0 ≡ true) → (c ∷ cs ≡ (led b c cs).0 ++ (led b c cs).1) × (all_ascii_digits (led b c cs).0 ≡ true)
lead_more c cs true e h = (ap (λ (t : List ℕ). c ∷ t) h.0, rw (e, h.1) refl)
lead_more c cs false e h = (refl, refl)

pub lead_found : (text : List ℕ) → (text ≡ (lead text).0 ++ (lead text).1) × (all_ascii_digits (lead text).0 ≡ true)
unfolding lead
lead_found [] = (refl, refl)
lead_found (c ∷ cs) = lead_more c cs (is_ascii_digit c) refl (lead_found cs)

-- what no digit begins
abbrev pub StartsNoDigit : List ℕ → Type 0
StartsNoDigit [] = Unit {0}
StartsNoDigit (c ∷ cs) = is_ascii_digit c ≡ false

start_more : (c : ℕ) (cs : List ℕ) (b : Bool) → is_ascii_digit c ≡ b → StartsNoDigit (lead cs).1 → StartsNoDigit (led b c cs).1
start_more c cs true e h = h
start_more c cs false e h = e

pub lead_stops : (text : List ℕ) → StartsNoDigit (lead text).1
unfolding lead
lead_stops [] = tt
lead_stops (c ∷ cs) = start_more c cs (is_ascii_digit c) refl (lead_stops cs)

lead_stop : (rest : List ℕ) → StartsNoDigit rest → lead rest ≡ ([], rest)
unfolding lead
lead_stop [] h = refl
lead_stop (c ∷ cs) h = rw h refl

pub lead_again : (digits rest : List ℕ) → all_ascii_digits digits ≡ true → StartsNoDigit rest → lead (digits ++ rest) ≡ (digits, rest)
unfolding lead
lead_again [] rest d s = lead_stop rest s
lead_again (c ∷ cs) rest d s = let k = and_parts (is_ascii_digit c) (all_ascii_digits cs) d in rw (k.0, lead_again cs rest k.1 s) refl
