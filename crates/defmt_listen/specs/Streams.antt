-- The source and the sink of a call.
use Rattle.std.specs.Prelude.{◌≡◌, ◌≤◌, ℕ, List, length, take, Option, Some, None}
use Rattle.std.specs.Io.KnownBytes.{Appends}

-- the source before the call and after it: what it has left, where that is told, and its count of faults
pub record Input : Type 0 where
  pub left : Option (List ℕ)
  pub left_after : Option (List ℕ)
  pub faults : ℕ
  pub faults_after : ℕ

-- the sink before the call and after it: what it holds, where that is told, and its count of faults
pub record Output : Type 0 where
  pub held : Option (List ℕ)
  pub held_after : Option (List ℕ)
  pub faults : ℕ
  pub faults_after : ℕ

-- what a source is that has these members, before a call and after it
abbrev pub input_of : {S : Type 0} → (S → Option (List ℕ)) → (S → ℕ) → S → S → Input
input_of left faults before after =
    record { left = left before; left_after = left after; faults = faults before; faults_after = faults after }

-- what a sink is that has these members, before a call and after it
abbrev pub output_of : {K : Type 0} → (K → Option (List ℕ)) → (K → ℕ) → K → K → Output
output_of held faults before after =
    record { held = held before; held_after = held after; faults = faults before; faults_after = faults after }

-- all of a text was written
abbrev pub Wrote : Output → List ℕ → Type 0
Wrote output text = Appends output.held output.held_after text

-- a front of a text was written
abbrev pub WroteFront : Output → List ℕ → Type 0
WroteFront output text = (count : ℕ) × (count ≤ length text) × Appends output.held output.held_after (take count text)

-- this is what is left, where that is told
abbrev pub IsRest : Option (List ℕ) → List ℕ → Type 0
IsRest None rest = Unit {0}
IsRest (Some left) rest = rest ≡ left
