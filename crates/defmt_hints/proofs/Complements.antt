-- The texts of signed numbers by their two's complements.
use Rattle.std.proofs.Common.{◌≡◌, ◌<◌, ◌≤◌, ◌-◌, ◌*◌, ◌^◌, ℕ, suc, ℤ, pos, negsuc, List, ◌++◌, codes, ap, refl, ◌∙◌, arith}
use Rattle.defmt_grammar.specs.Sizes.{size_bits, IsSigned}
use Rattle.defmt_grammar.specs.declared.kind.IntSize.{IntSize}
use Rattle.defmt_grammar.specs.declared.kind.IntSize.TheVariants.{W8, W16, W32, W64, W128, Native}
use Rattle.defmt_hints.specs.Digits.{zero_filled}
use Rattle.defmt_hints.specs.Printed.{decimal_text, padded_text, signed_text, twos_complement}

pub halves : (size : IntSize) (half : ℕ) → half ≡ 2 ^ (size_bits size - 1) → 2 ^ size_bits size ≡ 2 * half
halves W8 half e = omega (arith, e)
halves W16 half e = omega (arith, e)
halves W32 half e = omega (arith, e)
halves W64 half e = omega (arith, e)
halves W128 half e = omega (arith, e)
halves Native half e = omega (arith, e)

-- from the half on they stand for negative numbers, whatever text these have
negative_by : (text : ℤ → List ℕ) (of : ℕ → List ℕ) (size : IntSize) (half n m : ℕ) (z : ℤ) → ((k : ℕ) → text (negsuc k) ≡ of (suc k)) → half ≡ 2 ^ (size_bits size - 1) → half ≤ n → IsSigned (size_bits size) z → twos_complement (size_bits size) z ≡ n → m ≡ half - (n - half) → text z ≡ of m
negative_by text of size half n m (pos k) h e le s c is = absurd (omega (arith, e, le, s, c))
negative_by text of size half n m (negsuc k) h e le s c is =
    let same : suc k ≡ m = omega (arith, e, le, s, c, is, halves size half e) in
    h k ∙ ap of same

pub negative : (size : IntSize) (half n m : ℕ) (z : ℤ) → half ≡ 2 ^ (size_bits size - 1) → half ≤ n → IsSigned (size_bits size) z → twos_complement (size_bits size) z ≡ n → m ≡ half - (n - half) → signed_text z ≡ codes "-" ++ decimal_text m
negative size half n m z = negative_by signed_text (λ i. codes "-" ++ decimal_text i) size half n m z (λ k. refl)

pub padded_negative : (size : IntSize) (width half n m : ℕ) (z : ℤ) → half ≡ 2 ^ (size_bits size - 1) → half ≤ n → IsSigned (size_bits size) z → twos_complement (size_bits size) z ≡ n → m ≡ half - (n - half) → padded_text width z ≡ codes "-" ++ zero_filled (width - 1) (decimal_text m)
padded_negative size width half n m z = negative_by (padded_text width) (λ i. codes "-" ++ zero_filled (width - 1) (decimal_text i)) size half n m z (λ k. refl)

-- below it they stand for themselves
positive_by : (text : ℤ → List ℕ) (size : IntSize) (half n : ℕ) (z : ℤ) → half ≡ 2 ^ (size_bits size - 1) → n < half → IsSigned (size_bits size) z → twos_complement (size_bits size) z ≡ n → text z ≡ text (pos n)
positive_by text size half n (pos k) e lt s c = ap (λ (i : ℕ). text (pos i)) c
positive_by text size half n (negsuc k) e lt s c = absurd (omega (arith, e, lt, s, c, halves size half e))

pub positive : (size : IntSize) (half n : ℕ) (z : ℤ) → half ≡ 2 ^ (size_bits size - 1) → n < half → IsSigned (size_bits size) z → twos_complement (size_bits size) z ≡ n → signed_text z ≡ decimal_text n
positive size half n z = positive_by signed_text size half n z

pub padded_positive : (size : IntSize) (width half n : ℕ) (z : ℤ) → half ≡ 2 ^ (size_bits size - 1) → n < half → IsSigned (size_bits size) z → twos_complement (size_bits size) z ≡ n → padded_text width z ≡ zero_filled width (decimal_text n)
padded_positive size width half n z = positive_by (padded_text width) size half n z
