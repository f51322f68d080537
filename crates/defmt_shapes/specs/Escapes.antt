-- Reading characters and texts in quotes, on lists.
use Rattle.std.specs.Prelude.{◌≡◌, ℕ, nat_lt, nat_le, ◌&&◌, if◌then◌else◌, List, ◌∷◌, ◌++◌, length, Option, Some, None, option_map, encode_utf8}
use Rattle.std.specs.Borrow.{Bor}
use Rattle.std.specs.Char.{IsScalar}
use Rattle.std.specs.Str.Parse.{digits_value}
use Rattle.defmt_grammar.specs.Cut.{behind}
use Rattle.defmt_shapes.specs.declared.parts.Class.TheVariants.{Hexadecimal}
use Rattle.defmt_shapes.specs.Shape.{escaped, SpellsCharacters}
use Rattle.defmt_shapes.specs.Runs.{in_class, run, either, first_ascii}
use lib.Utf8.{scalar}

abbrev pub with_rest : {A : Type 0} → Option (A × Bor (List ℕ)) → Option (A × List ℕ)
with_rest o = option_map (λ p. (p.0, p.1.now)) o

-- the character of that number, if it is one
unfoldable pub scalar_of : ℕ → Option ℕ
scalar_of n = if scalar n then Some n else None

abbrev pub closed_number : List ℕ → Option (List ℕ) → Option (ℕ × List ℕ)
closed_number digits None = None
closed_number digits (Some rest) = option_map (λ c. (c, rest)) (scalar_of (digits_value 16 digits))

-- behind `\u{`
abbrev pub braced : List ℕ × List ℕ → Option (ℕ × List ℕ)
braced d =
    if nat_lt 0 (length d.0) && nat_le (length d.0) 6 then closed_number d.0 (behind 125 d.1)
    else None

-- behind `\u`
unfoldable pub number_escape : List ℕ → Option (ℕ × List ℕ)
number_escape text =
    either (behind 123 text) (λ more. braced (run (in_class Hexadecimal) more)) None

abbrev pub letter_escape : Option (ℕ × List ℕ) → Option (ℕ × List ℕ)
letter_escape None = None
letter_escape (Some p) = option_map (λ c. (c, p.1)) (escaped p.0)

-- behind `\`
unfoldable pub escape_of : List ℕ → Option (ℕ × List ℕ)
escape_of text = either (behind 117 text) number_escape (letter_escape (first_ascii text))

-- what a text begins with, as a character of UTF-8
abbrev pub IsFirstChar : List ℕ → Option (ℕ × List ℕ) → Type 0
IsFirstChar text None = (c : ℕ) (rest : List ℕ) → IsScalar c → text ≡ encode_utf8 c ++ rest → ⊥
IsFirstChar text (Some p) = IsScalar p.0 × (text ≡ encode_utf8 p.0 ++ p.1)

abbrev pub IsPlainCharacter : List ℕ → Option (List ℕ) → Option (ℕ × List ℕ) → Type 0
IsPlainCharacter text None o = IsFirstChar text o
IsPlainCharacter text (Some more) o = o ≡ None

abbrev pub IsCharacterAt : ℕ → List ℕ → Option (List ℕ) → Option (ℕ × List ℕ) → Type 0
IsCharacterAt quote text None o = IsPlainCharacter text (behind quote text) o
IsCharacterAt quote text (Some more) o = o ≡ escape_of more

-- what a text begins with, as a character or an escape between these quotes, and what follows it
abbrev pub IsCharacter : ℕ → List ℕ → Option (ℕ × List ℕ) → Type 0
IsCharacter quote text o = IsCharacterAt quote text (behind 92 text) o

-- characters up to a closing `"` that is followed by the rest
pub record ClosesQuote (text inside rest : List ℕ) : Type 0 where
  pub cs : List ℕ
  pub spelled : SpellsCharacters 34 inside cs
  pub text_is : text ≡ inside ++ 34 ∷ rest

-- what stands before the closing `"`, and behind it
abbrev pub IsQuotedEnd : List ℕ → Option (List ℕ × List ℕ) → Type 0
IsQuotedEnd text None = (inside rest : List ℕ) → ClosesQuote text inside rest → ⊥
IsQuotedEnd text (Some p) = ClosesQuote text p.0 p.1

-- how far a reader of a text in quotes has come: what closes the rest closes the text, and back
pub record InQuotes (text rest : List ℕ) : Type 0 where
  pub sound : (inside after : List ℕ) → ClosesQuote rest inside after
      → (front : List ℕ) × ClosesQuote text front after
  pub complete : (inside after : List ℕ) → ClosesQuote text inside after
      → (more : List ℕ) × ClosesQuote rest more after
