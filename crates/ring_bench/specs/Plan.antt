-- What words ask for.
use Rattle.std.specs.Prelude.{◌≡◌, ◌<◌, ◌≤◌, ◌^◌, ℕ, Bool, true, false, List, [], ◌∷◌, ◌++◌, codes, Option, Some, None}
use Rattle.std.specs.Str.Parse.{IsNumeral, digits_value, without_leading_plus}

-- the word is a decimal numeral of a number of 32 bits, behind a plus or nothing
abbrev pub Says : List ℕ → ℕ → Type 0
Says word n = (IsNumeral 10 (without_leading_plus word) × (digits_value 10 (without_leading_plus word) < 2 ^ 32)) × (n ≡ digits_value 10 (without_leading_plus word))

-- four words, each a number
pub record SayFour (words : List (List ℕ)) (a b c d : ℕ) : Type 0 where
  pub first : List ℕ
  pub second : List ℕ
  pub third : List ℕ
  pub fourth : List ℕ
  pub words_are : words ≡ first ∷ second ∷ third ∷ fourth ∷ []
  pub says_a : Says first a
  pub says_b : Says second b
  pub says_c : Says third c
  pub says_d : Says fourth d

-- the word behind the numbers where times are to be told
abbrev pub ending : Bool → List (List ℕ)
ending true = codes "timed" ∷ []
ending false = []

-- These words ask for rings of this size and so many rounds of so many frames of so many bytes: the program's name, the four
-- numbers, and `timed` or nothing. A size is from 16 to 65,536 bytes, a frame has 1 to 2,000.
pub record AsksFor (words : List (List ℕ)) (size frame count rounds : ℕ) (timed : Bool) : Type 0 where
  pub name : List ℕ
  pub numbers : List (List ℕ)
  pub words_are : words ≡ name ∷ (numbers ++ ending timed)
  pub say : SayFour numbers size frame count rounds
  pub size_least : 16 ≤ size
  pub size_most : size ≤ 65536
  pub frame_least : 0 < frame
  pub frame_most : frame ≤ 2000

-- ---- for private clauses

-- the number that a word says, None where it says none
abbrev pub NumberOf : List ℕ → Option ℕ → Type 0
NumberOf word None = (n : ℕ) → Says word n → ⊥
NumberOf word (Some n) = Says word n

-- the same of four words
abbrev pub NumbersOf : List (List ℕ) → Option (ℕ × ℕ × ℕ × ℕ) → Type 0
NumbersOf words None = (a b c d : ℕ) → SayFour words a b c d → ⊥
NumbersOf words (Some n) = SayFour words n.0 n.1 n.2 n.3

-- the words between the program's name and `timed`, and whether that stands at the end; None where there is no name
abbrev pub PartsOf : List (List ℕ) → Option (List (List ℕ) × Bool) → Type 0
PartsOf words None = words ≡ []
PartsOf words (Some (numbers, true)) = (name : List ℕ) × (words ≡ name ∷ (numbers ++ ending true))
PartsOf words (Some (numbers, false)) = (name : List ℕ) × (words ≡ name ∷ numbers) × ((front : List (List ℕ)) → numbers ≡ front ++ ending true → ⊥)
