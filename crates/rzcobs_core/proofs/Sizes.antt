-- How many bytes a code stands for.
use Rattle.std.proofs.Common.{ℕ, ◌*◌, ◌+◌, ◌<◌, ◌≤◌, List, [], ◌∷◌, ◌++◌, length, replicate, arith, length-append}
use Rattle.rzcobs_core.specs.Blocks.{zero_bits, nonzero, IsBlock, few, zero_after, none_zero, Blocks, end, block}
use Rattle.rzcobs_core.specs.Canon.{canon}
use Rattle.rzcobs_core.proofs.Greedy.{canon_stands}

block_size : (code bytes : List ℕ) → IsBlock code bytes → length bytes ≤ 7 * length code
block_size _ _ (few s all some) = omega (arith, all, length-append (nonzero s) (zero_bits s ∷ []))
block_size _ _ (zero_after xs non least most) = omega (arith, length-append xs ((length xs + 121) ∷ []), length-append xs (0 ∷ []))
block_size _ _ (none_zero xs non size) = omega (arith, length-append xs (255 ∷ []))

pub blocks_size : (code bytes : List ℕ) → Blocks code bytes → length bytes ≤ 7 * length code
blocks_size _ _ end = omega arith
blocks_size _ _ (block code bytes codes rest is more) =
    omega (arith, block_size code bytes is, blocks_size codes rest more, length-append code codes, length-append bytes rest)

some_code : (code bytes : List ℕ) → Blocks code bytes → 0 < length bytes → 0 < length code
some_code code bytes blocks some = omega (arith, blocks_size code bytes blocks)

-- the code of a message that isn't empty isn't
pub some_canon : (message : List ℕ) → 0 < length message → 0 < length (canon message)
some_canon message some =
    let s = canon_stands message in
    some_code (canon message) (message ++ replicate s.0 0) s.2 (omega (arith, length-append message (replicate s.0 0)))
