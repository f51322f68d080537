-- ASCII texts.
use Rattle.std.proofs.Common.{◌<◌, ℕ, zero, suc, Bool, true, false, List, [], ◌∷◌, ◌++◌, arith}
use Rattle.std.proofs.lemmas.Bool.Decides.{nat_tests}
use Rattle.std.specs.Fmt.{digit_glyph}
use Rattle.std.specs.Prelude.{replicate}

abbrev pub AreAscii : List ℕ → Type 0
AreAscii [] = Unit {0}
AreAscii (c ∷ cs) = (c < 128) × AreAscii cs

pub ascii_append : (xs ys : List ℕ) → AreAscii xs → AreAscii ys → AreAscii (xs ++ ys)
ascii_append [] ys h k = k
ascii_append (x ∷ xs) ys h k = (h.0, ascii_append xs ys h.1 k)

pub ascii_zeros : (n : ℕ) → AreAscii (replicate n 48)
ascii_zeros zero = tt
ascii_zeros (suc n) = (omega arith, ascii_zeros n)

pub glyph_is_ascii : (upper : Bool) (d : ℕ) → d < 16 → digit_glyph upper d < 128
glyph_is_ascii true d lt = grind (arith, nat_tests)
glyph_is_ascii false d lt = grind (arith, nat_tests)
