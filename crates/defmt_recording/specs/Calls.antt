-- The source, the sink and the shelf that a session is given.
use Rattle.std.specs.Prelude.{◌≡◌, ◌+◌, ◌≤◌, ℕ, List, length, Option, Some}
use Rattle.std.specs.Io.KnownBytes.{Consumes, IsAtEnd, Keeps}
use Rattle.dl_io.specs.Outside.{Took}
use Rattle.defmt_listen.specs.Streams.{Input, Output}

-- the shelf: its files, where these are told, and its count of faults before the call and after it
pub record Files : Type 0 where
  pub files : Option (List ℕ → Option (List ℕ))
  pub faults : ℕ
  pub faults_after : ℕ

-- what a shelf is that has these members, before a call and after it
abbrev pub files_of : {F : Type 0} → (F → Option (List ℕ → Option (List ℕ))) → (F → ℕ) → F → F → Files
files_of files faults before after =
    record { files = files before; faults = faults before; faults_after = faults after }

-- the source wasn't touched
pub record IsUnread (input : Input) : Type 0 where
  pub left : Keeps input.left input.left_after
  pub faults : input.faults_after ≡ input.faults

-- the source was read to its end, and gave these bytes, which are no more than so many
pub record GaveWithin (limit : ℕ) (input : Input) (bytes : List ℕ) : Type 0 where
  pub taken : Consumes input.left input.left_after bytes
  pub at_end : IsAtEnd input.left_after
  pub within : length bytes ≤ limit

-- no more than so many bytes were taken
abbrev pub TookWithin : ℕ → Input → Type 0
TookWithin limit input = Took input.left input.left_after (λ bytes. length bytes ≤ limit)

-- one byte more was taken
abbrev pub TookMore : ℕ → Input → Type 0
TookMore limit input = Took input.left input.left_after (λ bytes. length bytes ≡ limit + 1)

-- the sink wasn't touched
pub record IsUnwritten (output : Output) : Type 0 where
  pub held : Keeps output.held output.held_after
  pub faults : output.faults_after ≡ output.faults

-- the shelf wasn't touched
abbrev pub IsUntouched : Files → Type 0
IsUntouched files = files.faults_after ≡ files.faults

-- a source that has these bytes and never fails, before a call and after it, where these are left
abbrev pub at_hand : List ℕ → List ℕ → Input
at_hand bytes rest = record { left = Some bytes; left_after = Some rest; faults = 0; faults_after = 0 }
