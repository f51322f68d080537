-- The codes of rzCOBS: blocks, each of which ends with its code byte (rzCOBS, the table of code
-- bytes).
use Rattle.std.specs.Prelude.{◌≡◌, ◌≢◌, ◌+◌, ◌*◌, ◌<◌, ◌≤◌, ◌==◌, ℕ, List, [], ◌∷◌, ◌++◌, length, All, if◌then◌else◌}

-- a number whose bit i is set exactly where the byte i is zero
abbrev pub zero_bits : List ℕ → ℕ
zero_bits [] = 0
zero_bits (b ∷ bytes) = (if b == 0 then 1 else 0) + 2 * zero_bits bytes

-- the bytes that aren't zero, in their order
abbrev pub nonzero : List ℕ → List ℕ
nonzero [] = []
nonzero (b ∷ bytes) = if b == 0 then nonzero bytes else b ∷ nonzero bytes

-- The code bytes 01 to 7f: seven bytes of which one is zero. Those that aren't are stored, and
-- the code byte tells where the zeros are.
abbrev pub first_form : List ℕ → List ℕ
first_form seven = nonzero seven ++ zero_bits seven ∷ []

-- The code bytes 80 to fe: 7 to 133 bytes that aren't zero, and then a zero. The code byte tells
-- how many there are.
abbrev pub second_form : List ℕ → List ℕ
second_form bytes = bytes ++ (length bytes + 121) ∷ []

-- The code byte ff: 134 bytes that aren't zero.
abbrev pub third_form : List ℕ → List ℕ
third_form bytes = bytes ++ 255 ∷ []

-- a block's code, and the bytes that it stands for
pub data IsBlock : List ℕ → List ℕ → Type 0 where
  few : (seven : List ℕ) → length seven ≡ 7 → 0 < zero_bits seven → IsBlock (first_form seven) seven
  zero_after : (bytes : List ℕ) → All (λ b. b ≢ 0) bytes → 7 ≤ length bytes → length bytes ≤ 133
      → IsBlock (second_form bytes) (bytes ++ 0 ∷ [])
  none_zero : (bytes : List ℕ) → All (λ b. b ≢ 0) bytes → length bytes ≡ 134
      → IsBlock (third_form bytes) bytes

-- The code is a sequence of blocks, and the bytes are what the blocks stand for, joined.
pub data Blocks : List ℕ → List ℕ → Type 0 where
  end : Blocks [] []
  block : (code bytes codes rest : List ℕ) → IsBlock code bytes → Blocks codes rest
      → Blocks (code ++ codes) (bytes ++ rest)

-- no sequence of blocks is this
abbrev pub IsNoCode : List ℕ → Type 0
IsNoCode piece = (bytes : List ℕ) → Blocks piece bytes → ⊥
