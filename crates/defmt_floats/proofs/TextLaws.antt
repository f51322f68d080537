-- The text of a float, case by case.
use Rattle.std.proofs.Common.{◌≡◌, ℕ, ◌+◌, ◌-◌, ◌/◌, ◌%◌, ◌^◌, ◌<◌, ◌≤◌, List, ◌++◌, length, take, drop, codes, refl, ap, ◌∙◌, append_assoc, inl, inr, arith, length-append, length-drop}
use Rattle.std.proofs.lemmas.Bool.{cases_lt, lt-ltb, le-ltb, le-leb, lt-leb, eq-eqb, ne_eqb}
use Rattle.std.specs.Fmt.{decimal}
use lib.Ieee.{Format, binary32, binary64, top}
use Rattle.defmt_floats.specs.Shortest.{tens, most_digits, digits, last_place}
use Rattle.defmt_floats.specs.Layout.{zeros, whole_digits, leading_zeros, pointed, others, scientific, laid_out, number_text, infinity, sign_text, magnitude_text, float_text}

-- one text appended behind another
pub joined : (old a b : List ℕ) {mid new : List ℕ} → mid ≡ old ++ a → new ≡ mid ++ b → new ≡ old ++ (a ++ b)
joined old a b p q = q ∙ ap (λ (t : List ℕ). t ++ b) p ∙ append_assoc old a b

-- ---- the point

pub pointed_within : (ds : List ℕ) (n : ℕ) → n < length ds → take n ds ++ codes "." ++ drop n ds ≡ pointed ds n
unfolding pointed
pointed_within ds n h = rw (lt-ltb n (length ds) h) refl

pub pointed_behind : (ds : List ℕ) (n : ℕ) → length ds ≤ n → ds ++ zeros (n - length ds) ++ codes ".0" ≡ pointed ds n
unfolding pointed
pointed_behind ds n h = rw (le-ltb n (length ds) h) refl

pub others_short : (ds : List ℕ) → length (others ds) ≤ length ds
others_short ds = elim (cases_lt 1 (length ds)) [
  | inl l ↦ rw (lt-ltb 1 (length ds) l) (omega (arith, length-append (codes ".") (drop 1 ds), length-drop 1 ds))
  | inr g ↦ rw (le-ltb 1 (length ds) g) (omega arith)
]

pub scientific_is : (ds power : List ℕ) → take 1 ds ++ others ds ++ codes "e" ++ power ≡ scientific ds power
unfolding scientific
scientific_is ds power = refl

pub laid_pointed : (f : Format) (ds : List ℕ) (i n : ℕ) → i < length ds + tens f → n ≡ length ds + tens f - i → n ≤ whole_digits f → pointed ds n ≡ laid_out f ds i
unfolding laid_out
laid_pointed f ds i n a e b = rw (lt-ltb i (length ds + tens f) a, ← e, le-leb n (whole_digits f) b) refl

pub laid_great : (f : Format) (ds : List ℕ) (i n : ℕ) → i < length ds + tens f → n ≡ length ds + tens f - i → whole_digits f < n → scientific ds (decimal (n - 1)) ≡ laid_out f ds i
unfolding laid_out
laid_great f ds i n a e b = rw (lt-ltb i (length ds + tens f) a, ← e, lt-leb n (whole_digits f) b) refl

pub laid_behind : (f : Format) (ds : List ℕ) (i n : ℕ) → length ds + tens f ≤ i → n ≡ i - (length ds + tens f) → n ≤ leading_zeros f → codes "0." ++ zeros n ++ ds ≡ laid_out f ds i
unfolding laid_out
laid_behind f ds i n a e b = rw (le-ltb i (length ds + tens f) a, ← e, le-leb n (leading_zeros f) b) refl

pub laid_small : (f : Format) (ds : List ℕ) (i n : ℕ) → length ds + tens f ≤ i → n ≡ i - (length ds + tens f) → leading_zeros f < n → scientific ds (codes "-" ++ decimal (n + 1)) ≡ laid_out f ds i
unfolding laid_out
laid_small f ds i n a e b =
    let more : i + 1 - (length ds + tens f) ≡ n + 1 = omega arith in
    rw (le-ltb i (length ds + tens f) a, more, ← e, lt-leb n (leading_zeros f) b) refl

-- ---- a number

pub few : (f : Format) → (10 ^ most_digits f % 10 ≡ 0) × (10 ^ most_digits f < 2 ^ 64) × (whole_digits f ≤ 16) × (leading_zeros f + most_digits f ≤ 21) × (9 ≤ most_digits f) × (most_digits f ≤ 17) × (tens f ≤ 309)
few binary32 = (refl, omega arith, omega arith, omega arith, omega arith, omega arith, omega arith)
few binary64 = (refl, omega arith, omega arith, omega arith, omega arith, omega arith, omega arith)

pub number_ten : (f : Format) (bits d i : ℕ) → d ≡ digits f bits → i ≡ last_place f bits → d % 10 ≡ 0 → laid_out f (decimal (d / 10)) (i - 1) ≡ number_text f bits
unfolding number_text
number_ten f bits d i e s h = rw (← e, ← s, eq-eqb (d % 10) 0 h) refl

pub number_other : (f : Format) (bits d i : ℕ) → d ≡ digits f bits → i ≡ last_place f bits → (d % 10 ≡ 0 → ⊥) → laid_out f (decimal d) i ≡ number_text f bits
unfolding number_text
number_other f bits d i e s h = rw (← e, ← s, ne_eqb (d % 10) 0 h) refl

-- ---- a float

pub infinite : (f : Format) (bits : ℕ) → bits ≡ infinity f → codes "inf" ≡ magnitude_text f bits
unfolding magnitude_text
infinite f bits h = rw (eq-eqb bits (infinity f) h) refl

pub none : (f : Format) (bits : ℕ) → (bits ≡ infinity f → ⊥) → bits ≡ 0 → codes "0.0" ≡ magnitude_text f bits
unfolding magnitude_text
none f bits h z = rw (ne_eqb bits (infinity f) h, eq-eqb bits 0 z) refl

pub finite : (f : Format) (bits : ℕ) → (bits ≡ infinity f → ⊥) → (bits ≡ 0 → ⊥) → number_text f bits ≡ magnitude_text f bits
unfolding magnitude_text
finite f bits h z = rw (ne_eqb bits (infinity f) h, ne_eqb bits 0 z) refl

pub no_number : (f : Format) (bits m : ℕ) → m ≡ bits % top f → infinity f < m → codes "NaN" ≡ float_text f bits
unfolding float_text
no_number f bits m e h = rw (← e, lt-ltb (infinity f) m h) refl

pub signed : (f : Format) (bits m : ℕ) → m ≡ bits % top f → m ≤ infinity f → sign_text f bits ++ magnitude_text f m ≡ float_text f bits
unfolding float_text
signed f bits m e h = rw (← e, le-ltb (infinity f) m h) refl
