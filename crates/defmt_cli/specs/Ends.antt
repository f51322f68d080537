-- How the program ends.
use Rattle.std.specs.Prelude.{◌≡◌, ◌⊎◌, ◌++◌, ◌∷◌, [], ℕ, zero, suc, List, Option}
use Rattle.defmt_listen.specs.Streams.{Input, Output, Wrote, WroteFront}
use Rattle.defmt_recording.specs.Calls.{Files}
use Rattle.defmt_recording.specs.Status.{said, status_of}
use Rattle.defmt_recording.specs.declared.fault.Fault.{Fault}
use Rattle.defmt_run.specs.Session.{Answers}
use Rattle.defmt_run.specs.Told.{Told}
use Rattle.defmt_words.specs.declared.job.Job.{Job}
use Rattle.dl_io.specs.Outside.{Rose}

-- a text was written, or a front of it where the sink failed
abbrev pub Tells : List ℕ → Output → Type 0
Tells text errors = Wrote errors text ⊎ (WroteFront errors text × Rose errors.faults errors.faults_after)

-- nothing is told at status 0; at any other a text, or nothing for want of memory
abbrev pub SaysBy : ℕ → List ℕ → Output → Type 0
SaysBy zero text errors = Wrote errors []
SaysBy (suc status) text errors = Tells text errors ⊎ Wrote errors []

-- the words of a fault and a newline
abbrev pub SaysFault : Fault → Output → Type 0
SaysFault fault errors = SaysBy (status_of fault) (said fault ++ 10 ∷ []) errors

-- What was asked for was done and came to a fault, whose status the program ends with, and whose words alone it told.
pub record Ends (asked : Option Job) (input : Input) (shelf : Files) (output errors : Output) (status : ℕ) : Type 0 where
  pub fault : Fault
  pub told : Told
  pub answers : Answers asked input shelf output fault told
  pub is : status ≡ status_of fault
  pub says : SaysFault fault errors
