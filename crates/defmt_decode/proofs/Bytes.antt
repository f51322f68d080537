-- What a code of bytes stands for is bytes, and few of them.
use Rattle.std.proofs.Common.{◌+◌, ◌^◌, ◌<◌, ◌≤◌, inl, inr, ℕ, suc, List, [], ◌∷◌, ◌++◌, length, All, subst, arith}
use Rattle.std.proofs.lemmas.Bool.{cases_eq}
use Rattle.rzcobs_core.specs.Blocks.{zero_bits, nonzero, IsBlock, few, zero_after, none_zero, Blocks, end, block}
use Rattle.rzcobs_core.proofs.Bits.{nonzero-zero, nonzero-other}
use Rattle.rzcobs_core.proofs.Sizes.{blocks_size}
use Rattle.defmt_encode.proofs.Numbers.{AreBytes, bytes_after}

pub are_bytes : (xs : List ℕ) → All (λ b. b < 256) xs → AreBytes xs
are_bytes [] all = tt
are_bytes (x ∷ xs) all = (all 0 0 (omega arith), are_bytes xs (λ k d within. all (suc k) d (omega arith)))

left : (xs ys : List ℕ) → AreBytes (xs ++ ys) → AreBytes xs
left [] ys all = tt
left (x ∷ xs) ys all = (all.0, left xs ys all.1)

both : (xs ys : List ℕ) → AreBytes xs → AreBytes ys → AreBytes (xs ++ ys)
both [] ys front back = back
both (x ∷ xs) ys front back = (front.0, both xs ys front.1 back)

-- zeros are bytes, and so are those that aren't zero
spread : (xs : List ℕ) → AreBytes (nonzero xs) → AreBytes xs
spread [] all = tt
spread (x ∷ xs) all = elim (cases_eq x 0) [
  | inl is ↦ (omega (arith, is), spread xs (subst AreBytes (nonzero-zero x xs is) all))
  | inr not ↦ let a = subst AreBytes (nonzero-other x xs not) all in (a.0, spread xs a.1)
]

block_bytes : (code bytes : List ℕ) → IsBlock code bytes → AreBytes code → AreBytes bytes
block_bytes _ _ (few seven size some) all = spread seven (left (nonzero seven) (zero_bits seven ∷ []) all)
block_bytes _ _ (zero_after bytes non least most) all = both bytes (0 ∷ []) (left bytes ((length bytes + 121) ∷ []) all) (omega arith, tt)
block_bytes _ _ (none_zero bytes non size) all = left bytes (255 ∷ []) all

pub blocks_bytes : (code bytes : List ℕ) → Blocks code bytes → AreBytes code → AreBytes bytes
blocks_bytes _ _ end all = tt
blocks_bytes _ _ (block code bytes codes rest first more) all =
    both bytes rest (block_bytes code bytes first (left code codes all)) (blocks_bytes codes rest more (bytes_after code codes all))

pub blocks_few : (code bytes : List ℕ) → length code ≤ 65536 → Blocks code bytes → length bytes < 2 ^ 32
blocks_few code bytes short blocks = omega (arith, blocks_size code bytes blocks)
