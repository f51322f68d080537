-- What the source gives and which files the shelf has, as far as these are told, and where one of the outside fails.
use Rattle.std.specs.Prelude.{◌≡◌, ◌⊎◌, ℕ, List, Option, Some, None}
use Rattle.dl_io.specs.Outside.{Rose}
use Rattle.defmt_listen.specs.Streams.{Input, IsRest, Output}
use Rattle.defmt_recording.specs.Calls.{Files}
use Rattle.defmt_recording.specs.declared.fault.Fault.{Fault}
use Rattle.defmt_recording.specs.declared.fault.Fault.TheVariants.{Memory, Source, Sink, Shelf}

-- what the source gives, the files of the shelf, and those that it has later, when it is asked once more
pub record Inputs : Type 0 where
  pub text : List ℕ
  pub files : List ℕ → Option (List ℕ)
  pub later : List ℕ → Option (List ℕ)

-- these are the files, where they are told
abbrev pub AreFiles : Option (List ℕ → Option (List ℕ)) → (List ℕ → Option (List ℕ)) → Type 0
AreFiles None files = Unit {0}
AreFiles (Some told) files = files ≡ told

-- the inputs are as source and shelf tell them, where they do
pub record AreAsTold (left : Option (List ℕ)) (told : Option (List ℕ → Option (List ℕ))) (inputs : Inputs) : Type 0 where
  pub text : IsRest left inputs.text
  pub files : AreFiles told inputs.files
  pub later : AreFiles told inputs.later

-- This is so of the fault, or memory was wanting, or something of the outside failed and its count rose: the source, where it is
-- read, the shelf, where it is asked, or the sink.
abbrev pub OrFailing : (IsRead IsAsked : Type 0) → Input → Files → Output → (Fault → Type 0) → Fault → Type 0
OrFailing IsRead IsAsked input shelf output Is Memory = Unit {0}
OrFailing IsRead IsAsked input shelf output Is Source = IsRead × Rose input.faults input.faults_after
OrFailing IsRead IsAsked input shelf output Is Sink = Rose output.faults output.faults_after
OrFailing IsRead IsAsked input shelf output Is Shelf = (IsAsked × Rose shelf.faults shelf.faults_after) ⊎ Is Shelf
OrFailing IsRead IsAsked input shelf output Is fault = Is fault
