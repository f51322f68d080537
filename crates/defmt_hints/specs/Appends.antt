-- What a call appends.
use Rattle.std.specs.Prelude.{◌≡◌, ℕ, List, ◌++◌, Result, Ok, Err}

-- new is old followed by a front of the text
pub record AppendsFront (old new text : List ℕ) : Type 0 where
  pub front : List ℕ
  pub back : List ℕ
  pub parts : text ≡ front ++ back
  pub appended : new ≡ old ++ front

-- the text is appended, or a front of it where memory runs out
abbrev pub Appends : {E : Type 0} → Result (Unit {0}) E → List ℕ → List ℕ → List ℕ → Type 0
Appends (Ok done) old new text = new ≡ old ++ text
Appends (Err memory) old new text = AppendsFront old new text
