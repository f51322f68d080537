-- The text of a negative number.
use Rattle.std.proofs.Common.{◌≡◌, ◌-◌, ◌++◌, ℕ, refl, arith}
use Rattle.std.proofs.lemmas.Int.{ints}
use Rattle.std.specs.Prelude.{ℤ, pos, negsuc, ◌<ℤ◌, codes, unsigned_abs}
use Rattle.defmt_hints.specs.Digits.{zero_filled}
use Rattle.defmt_hints.specs.Printed.{decimal_text, padded_text, signed_text}

pub negative_text : (z : ℤ) → z <ℤ pos 0 → signed_text z ≡ codes "-" ++ decimal_text (unsigned_abs z)
negative_text (pos n) h = absurd (omega (arith, ints))
negative_text (negsuc n) h = refl

pub padded_negative_text : (z : ℤ) (width : ℕ) → z <ℤ pos 0 → padded_text width z ≡ codes "-" ++ zero_filled (width - 1) (decimal_text (unsigned_abs z))
padded_negative_text (pos n) width h = absurd (omega (arith, ints))
padded_negative_text (negsuc n) width h = refl
