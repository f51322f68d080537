-- What is told of a stream: something of each piece, and of a front and a tail that aren't empty.
use Rattle.std.specs.Prelude.{ℕ, List, [], ◌∷◌, ◌++◌, ◌-◌, ◌^◌, min, nat_le, length, map, if◌then◌else◌}
use Rattle.defmt_framing.specs.Cut.{has_zero, front, pieces, tail}

-- what a piece of at most 65,536 bytes tells, a longer one, and a front and a tail of so many bytes
pub record Tells (E : Type 0) : Type 0 where
  pub piece : List ℕ → E
  pub long : E
  pub cut_front : ℕ → E
  pub cut_tail : ℕ → E

-- a length as 64 bits tell it: their last value where it is larger
abbrev pub told_size : ℕ → ℕ
told_size n = min n (2 ^ 64 - 1)

unfoldable pub of_piece : {E : Type 0} → Tells E → List ℕ → E
of_piece tells piece = if nat_le (length piece) 65536 then tells.piece piece else tells.long

unfoldable pub of_front : {E : Type 0} → Tells E → ℕ → E
of_front tells n = tells.cut_front (told_size n)

unfoldable pub of_tail : {E : Type 0} → Tells E → ℕ → E
of_tail tells n = tells.cut_tail (told_size n)

-- this of the length of bytes that aren't empty
abbrev pub cut_off : {E : Type 0} → (ℕ → E) → List ℕ → List E
cut_off make [] = []
cut_off make (b ∷ bytes) = make (length (b ∷ bytes)) ∷ []

-- of the front, of each piece, of the tail
unfoldable pub events : {E : Type 0} → Tells E → List ℕ → List E
events tells stream =
    cut_off (of_front tells) (front stream)
    ++ (map (of_piece tells) (pieces stream) ++ cut_off (of_tail tells) (tail stream))

-- those of the front and the pieces alone; none where there is no zero
unfoldable pub begun : {E : Type 0} → Tells E → List ℕ → List E
begun tells stream =
    if has_zero stream then cut_off (of_front tells) (front stream) ++ map (of_piece tells) (pieces stream)
    else []
