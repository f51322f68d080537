-- What the parts of the decoder do, which reads a code from its end.
use Rattle.std.specs.Prelude.{◌≡◌, ◌+◌, ◌*◌, ◌/◌, ◌%◌, ◌≤◌, ◌==◌, ℕ, zero, suc, List, [], ◌∷◌, ◌++◌, length, drop, slice_index, if◌then◌else◌}
use Rattle.rzcobs_core.specs.Blocks.{IsBlock}

-- how many of the lowest n bits are clear
unfoldable pub clear_bits : ℕ → ℕ → ℕ
clear_bits zero code = 0
clear_bits (suc n) code = (if code % 2 == 1 then 0 else 1) + clear_bits n (code / 2)

-- n bytes: a zero where a bit of the code byte is set, from the lowest on, and elsewhere the next stored byte
unfoldable pub spread : ℕ → ℕ → List ℕ → List ℕ
spread zero code stored = []
spread (suc n) code stored =
    if code % 2 == 1 then 0 ∷ spread n (code / 2) stored else slice_index stored 0 ∷ spread n (code / 2) (drop 1 stored)

-- The last bytes of a list were put in front of what stood at the buffer's end.
pub record ReadsRun (before : List ℕ) (stored : ℕ) (out : List ℕ) (at : ℕ) (front after : List ℕ) (begin : ℕ) : Type 0 where
  pub kept : List ℕ
  pub size : length kept ≡ stored
  pub before_is : before ≡ front ++ kept
  pub put : drop begin after ≡ kept ++ drop at out
  pub place : begin + stored ≡ at

-- The last block of a code was read, and what it stands for was put in front of what stood at the
-- buffer's end.
pub record ReadsLast (code out : List ℕ) (at : ℕ) (front after : List ℕ) (begin : ℕ) : Type 0 where
  pub last : List ℕ
  pub bytes : List ℕ
  pub is : IsBlock last bytes
  pub code_is : code ≡ front ++ last
  pub put : drop begin after ≡ bytes ++ drop at out
  pub room : at ≤ begin + 7 * length last
  pub within : begin ≤ at

-- no block stands at the end of the code
abbrev pub EndsInNoBlock : List ℕ → Type 0
EndsInNoBlock code = (front last bytes : List ℕ) → IsBlock last bytes → code ≡ front ++ last → ⊥
