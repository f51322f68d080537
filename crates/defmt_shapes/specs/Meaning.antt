-- What stands inside a spelling, as text and bytes. A text that isn't spelled stands for what its front is spelled for.
use Rattle.std.specs.Prelude.{◌≡◌, ◌<◌, ◌+◌, ◌*◌, ℕ, List, ◌∷◌, ◌++◌}
use Rattle.std.specs.Char.{digit_value}
use Rattle.defmt_shapes.specs.Shape.{SpellsCharacter, SpellsQuoted, SpellsBytes}

-- no character or escape that may stand between double quotes stands in front
abbrev pub NoCharacter : List ℕ → Type 0
NoCharacter text =
    (c : ℕ) (front rest : List ℕ) → SpellsCharacter 34 front c → text ≡ front ++ rest → ⊥

-- the text of the characters and escapes in front, up to the first place where none stands
pub record MeansText (inside text : List ℕ) : Type 0 where
  pub front : List ℕ
  pub rest : List ℕ
  pub inside_is : inside ≡ front ++ rest
  pub spelled : SpellsQuoted front text
  pub ends : NoCharacter rest

-- two hexadecimal digits stand in front, which stand for this byte
pub record FirstByte (digits : List ℕ) (byte : ℕ) (rest : List ℕ) : Type 0 where
  pub high : ℕ
  pub low : ℕ
  pub is_high : digit_value high < 16
  pub is_low : digit_value low < 16
  pub byte_is : byte ≡ 16 * digit_value high + digit_value low
  pub digits_are : digits ≡ high ∷ low ∷ rest

-- no two hexadecimal digits stand in front
abbrev pub NoByte : List ℕ → Type 0
NoByte digits = (byte : ℕ) (rest : List ℕ) → FirstByte digits byte rest → ⊥

-- the bytes of the pairs of hexadecimal digits in front, up to the first place where none stands
pub record MeansBytes (digits bytes : List ℕ) : Type 0 where
  pub front : List ℕ
  pub rest : List ℕ
  pub digits_are : digits ≡ front ++ rest
  pub spelled : SpellsBytes front bytes
  pub ends : NoByte rest
