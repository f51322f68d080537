-- Six digits behind a decimal point, two at a time.
use Rattle.std.proofs.Common.{◌≡◌, ◌<◌, ◌≤◌, ◌+◌, ◌*◌, ◌/◌, ◌%◌, ℕ, List, [], ◌∷◌, ◌++◌, length, get_or, drop, set, length-set, refl, sym, ap, ◌∙◌, arith}
use Rattle.std.proofs.lemmas.Fmt.{decimal_digit}
use Rattle.std.proofs.lemmas.List.{drop-set, take-set}
use Rattle.std.specs.Fmt.{decimal}
use Rattle.itoa.proofs.Decimal.{PAIRS_at, decimal_four, decimal_pair, pair}
use Rattle.defmt_hints.proofs.PartsLaws.{behind_one}
use Rattle.defmt_hints.specs.Digits.{zero_filled}
use Rattle.defmt_hints.specs.Printed.{decimal_text}
use Rattle.defmt_hints.specs.declared.seconds.TheConstants.{PAIRS}
use Rattle.defmt_hints.specs.Written.{Written}
use Rattle.defmt_hints.proofs.Chains.{written_two}
use Rattle.defmt_hints.proofs.Places.{written_here}

pub pairs_at : (p : ℕ) → p < 100 → (get_or PAIRS (p * 2) 0 ≡ 48 + p / 10) × (get_or PAIRS (p * 2 + 1) 0 ≡ 48 + p % 10)
pairs_at p lt = PAIRS_at p lt

pub byte_written : (old : List ℕ) (at end b : ℕ) → at + 1 ≡ end → end ≤ length old → Written old at (set old at b) end (b ∷ [])
byte_written old at end b e le =
    written_here old (set old at b) (b ∷ []) at at end (omega arith) le (length-set old at b) (omega arith) (omega arith)
    (drop-set old at b (omega arith) ∙ ap (λ (n : ℕ). b ∷ drop n old) e) (take-set old at b)

pub pair_written : (old : List ℕ) (at a b : ℕ) → at + 2 ≤ length old → Written old at (set (set old at a) (at + 1) b) (at + 2) (a ∷ b ∷ [])
pair_written old at a b le =
    written_two old (set old at a) (set (set old at a) (at + 1) b) at (at + 1) (at + 2) (a ∷ []) (b ∷ [])
    (byte_written old at (at + 1) a refl (omega arith))
    (byte_written (set old at a) (at + 1) (at + 2) b (omega arith) (omega (arith, length-set old at a)))

hundreds : (h : ℕ) → h < 100 → decimal (100 + h) ≡ 49 ∷ pair h
hundreds h lt =
    let q : (100 + h) / 100 ≡ 1 = omega arith in
    let r : (100 + h) % 100 ≡ h = omega arith in
    decimal_pair (100 + h) (omega arith) (omega arith)
    ∙ ap (λ (m : ℕ). decimal m ++ pair ((100 + h) % 100)) q
    ∙ ap (λ (m : ℕ). decimal 1 ++ pair m) r
    ∙ ap (λ (t : List ℕ). t ++ pair h) (decimal_digit 1 (omega arith))

-- behind the one of a million and the parts stand the digits of the parts
pub six_digits : (p : ℕ) → p < 1000000 → zero_filled 6 (decimal_text p) ≡ pair (p / 10000) ++ (pair (p % 10000 / 100) ++ pair (p % 10000 % 100))
six_digits p lt =
    let n : ℕ = 1000000 + p in
    let high : n / 10000 ≡ 100 + p / 10000 = omega arith in
    let low : n % 10000 ≡ p % 10000 = omega arith in
    let front : decimal (n / 10000) ≡ 49 ∷ pair (p / 10000) = ap decimal high ∙ hundreds (p / 10000) (omega arith) in
    let whole : decimal n ≡ 49 ∷ (pair (p / 10000) ++ (pair (p % 10000 / 100) ++ pair (p % 10000 % 100))) =
    decimal_four n (omega arith) (omega arith)
    ∙ ap (λ (t : List ℕ). t ++ (pair (n % 10000 / 100) ++ pair (n % 10000 % 100))) front
    ∙ ap (λ (m : ℕ). (49 ∷ pair (p / 10000)) ++ (pair (m / 100) ++ pair (m % 100))) low in
    sym (behind_one 6 p (omega arith) lt (omega arith)) ∙ ap (drop 1) whole
