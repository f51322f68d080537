-- Parts of a text, as functions on lists.
use Rattle.std.specs.Prelude.{◌≡◌, ◌<◌, ℕ, List, [], ◌∷◌, length, Option, Some, None, option_map, min, ◌^◌, ◌-◌, if◌then◌else◌, ◌==◌, ◌&&◌, nat_lt, true, false}
use Rattle.std.specs.Char.{is_ascii_digit}
use Rattle.std.specs.Str.{all_ascii_digits}
use Rattle.std.specs.Str.Parse.{digits_value}
use Rattle.std.specs.List.{AllByRecursion}
use Rattle.std.specs.Borrow.{Bor}

abbrev pub parts_of : Option (Bor (List ℕ) × Bor (List ℕ)) → Option (List ℕ × List ℕ)
parts_of o = option_map (λ p. (p.0.now, p.1.now)) o

-- what stands before and after the first c
unfoldable pub cut : ℕ → List ℕ → Option (List ℕ × List ℕ)
cut c [] = None
cut c (x ∷ xs) = if x == c then Some ([], xs) else option_map (λ p. (x ∷ p.0, p.1)) (cut c xs)

-- the text has no c
abbrev pub Lacks : ℕ → List ℕ → Type 0
Lacks c [] = Unit {0}
Lacks c (x ∷ xs) = (x == c ≡ false) × Lacks c xs

-- the digits in front, and what follows them
unfoldable pub lead : List ℕ → List ℕ × List ℕ
lead [] = ([], [])
lead (c ∷ cs) = if is_ascii_digit c then (c ∷ (lead cs).0, (lead cs).1) else ([], c ∷ cs)

-- what stands behind a first c
unfoldable pub behind : ℕ → List ℕ → Option (List ℕ)
behind c [] = None
behind c (x ∷ xs) = if x == c then Some xs else None

-- what stands before a last c
unfoldable pub before : ℕ → List ℕ → Option (List ℕ)
before c [] = None
before c (x ∷ []) = if x == c then Some [] else None
before c (x ∷ y ∷ ys) = option_map (λ front. x ∷ front) (before c (y ∷ ys))

-- the text behind a front
unfoldable pub strip : List ℕ → List ℕ → Option (List ℕ)
strip [] text = Some text
strip (p ∷ ps) [] = None
strip (p ∷ ps) (c ∷ cs) = if c == p then strip ps cs else None

unfoldable pub skip_spaces : List ℕ → List ℕ
skip_spaces [] = []
skip_spaces (c ∷ cs) = if c == 32 then skip_spaces cs else c ∷ cs

abbrev pub AreSpaces : List ℕ → Type 0
AreSpaces text = AllByRecursion (λ c. c ≡ 32) text

-- decimal digits, at least one, and the number that they stand for
pub record IsDecimal (text : List ℕ) (n : ℕ) : Type 0 where
  pub some : 0 < length text
  pub digits : all_ascii_digits text ≡ true
  pub value : digits_value 10 text ≡ n

-- the number of decimal digits, or the greatest of 32 bits where it is larger
unfoldable pub number_of : List ℕ → Option ℕ
number_of text = if nat_lt 0 (length text) && all_ascii_digits text then Some (min (digits_value 10 text) (2 ^ 32 - 1)) else None
