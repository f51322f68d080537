-- What one pass over steps leaves, by the readers that message_at of defmt_encode is made of.
use Rattle.std.specs.Prelude.{◌≡◌, ◌≤◌, ◌+◌, ℕ, List, length, drop, Option, Some, None, Ok}
use Rattle.defmt_grammar.specs.declared.hint.Hint.{Hint}
use Rattle.defmt_grammar.specs.declared.piece.Piece.{Piece}
use Rattle.defmt_grammar.specs.declared.slot.Slot.TheVariants as slots
use Rattle.defmt_intern.specs.Table.{Map}
use Rattle.defmt_values.specs.Entries.{places_of}
use Rattle.defmt_encode.specs.Read.{Read, each_at, value_at}
use Rattle.defmt_eager.specs.Answers.{Placed}
use Rattle.defmt_eager.specs.Show.{show_val, shows, acting, pieces_text}
use Rattle.defmt_plan.specs.Passed.{PassedField}
use Rattle.defmt_hints.specs.Written.{Kept}
use Rattle.defmt_plan.specs.declared.leaves.Progress.{Progress}
use Rattle.defmt_plan.specs.declared.reach.Reach.{Reach}
use Rattle.defmt_plan.specs.declared.steps.Step.{Step}
use Rattle.defmt_plan.specs.declared.steps.Step.TheVariants as steps

-- a reader of bytes, behind values that have this sum of weights
abbrev pub Reader : Type 0 → Type 0
Reader A = ℕ → List ℕ → Read (A × ℕ × List ℕ)

-- the reader reads the bytes behind one place, and leaves those behind another, and the text of what it reads stands behind a place
pub record PassedBy {A : Type 0} (reader : Reader A) (text : A → List ℕ) (bytes : List ℕ)
    (before after : Reach) (old new : List ℕ) : Type 0 where
  pub value : A
  pub reads : reader before.opened (drop before.read bytes)
      ≡ Ok (value, after.opened, drop after.read bytes)
  pub few : after.opened ≤ 8192
  pub within : after.read ≤ length bytes
  pub written : Placed old before.written new after.written (text value)

abbrev pub PassesBy : {A : Type 0} → Option Reach → Reader A → (A → List ℕ) → List ℕ → Reach
    → List ℕ → List ℕ → Type 0
PassesBy None reader text bytes before old new = Kept old before.written new
PassesBy (Some after) reader text bytes before old new =
    PassedBy reader text bytes before after old new

-- nothing is opened, and so many bytes are read
pub record Stays (before after : Reach) (count : ℕ) : Type 0 where
  pub read : after.read ≡ before.read + count
  pub opened : after.opened ≡ before.opened

-- a step under the hint that acts round it: the number is passed by the last of its fields
abbrev pub PassedStepBy : Map → ℕ → Hint → Step → List ℕ → Reach → Reach → List ℕ → List ℕ
    → Type 0
PassedStepBy t left outer (steps.Text text) bytes before after old new =
    Stays before after 0 × Placed old before.written new after.written text
PassedStepBy t left outer (steps.Value kind hint) bytes before after old new =
    PassedBy (value_at t left (slots.One kind) 1) (λ v. show_val t v kind (acting outer hint))
    bytes before after old new
PassedStepBy t left outer (steps.Peek field hint) bytes before after old new =
    Stays before after 0
    × PassedField field (acting outer hint) bytes before.read old before.written new after.written
PassedStepBy t left outer (steps.Bits field hint) bytes before after old new =
    Stays before after field.width
    × PassedField field (acting outer hint) bytes before.read old before.written new after.written

abbrev pub PassesStepBy : Option Reach → Map → ℕ → Hint → Step → List ℕ → Reach → List ℕ
    → List ℕ → Type 0
PassesStepBy None t left outer step bytes before old new = Kept old before.written new
PassesStepBy (Some after) t left outer step bytes before old new =
    PassedStepBy t left outer step bytes before after old new

-- the arguments of a string, with the text of its pieces, or of those behind a literal
abbrev pub PassesPieces : Option Reach → Map → ℕ → Hint → List Piece → List Piece → List ℕ → Reach
    → List ℕ → List ℕ → Type 0
PassesPieces r t left outer all pieces bytes before old new =
    PassesBy r (each_at (value_at t left) (places_of all) 1)
    (λ vs. pieces_text outer pieces (shows t vs)) bytes before old new

-- how far a pass has come, without how many it has opened
abbrev pub progress_of : Reach → Progress
progress_of reach = record { read = reach.read; written = reach.written }

-- how far a pass has come that has opened nothing
abbrev pub reached : Progress → Reach
reached progress = record { read = progress.read; written = progress.written; opened = 0 }
