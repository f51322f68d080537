-- What a session does, by what the words ask for and the fault that it answers.
use Rattle.std.specs.Prelude.{◌≡◌, ◌⊎◌, ℕ, List, Option, Some, None}
use Rattle.defmt_listen.specs.Streams.{Input, Output}
use Rattle.defmt_recording.specs.Calls.{Files, IsUnread, IsUntouched, IsUnwritten}
use Rattle.defmt_recording.specs.Decoding.{Decodes, DecodingComesTo}
use Rattle.defmt_recording.specs.Dumping.{Dumps, DumpingComesTo}
use Rattle.defmt_recording.specs.Inputs.{AreAsTold, Inputs, OrFailing}
use Rattle.defmt_run.specs.Running.{Runs, RunningComesTo, SteeringComesTo}
use Rattle.defmt_run.specs.Told.{IsUntold, Told}
use Rattle.defmt_recording.specs.declared.fault.Fault.{Fault}
use Rattle.defmt_recording.specs.declared.fault.Fault.TheVariants.{Fine, Memory, Words, Level}
use Rattle.defmt_words.specs.declared.job.Job.{Job}
use Rattle.defmt_words.specs.declared.job.Job.TheVariants.{Script, Decode, Dump}
use Rattle.defmt_words.specs.declared.job.ScriptJob.TheVariants.{Generate, Steer}

-- words that ask for nothing, or want of memory before they are known
abbrev pub IsRefused : Fault → Type 0
IsRefused fault = (fault ≡ Words) ⊎ (fault ≡ Memory)

-- What stands at each fault. Words that ask for nothing leave all as it was. A job on a script leaves the shelf. The decoding of
-- a recording, or of an image, tells nothing of a run.
abbrev pub Answers : Option Job → Input → Files → Output → Fault → Told → Type 0
Answers None input shelf output fault told =
    IsRefused fault × IsUnread input × IsUntouched shelf × IsUnwritten output × IsUntold told
Answers (Some (Script job)) input shelf output fault told = Runs job input output fault told × IsUntouched shelf
Answers (Some (Decode options)) input shelf output fault told =
    Decodes options input shelf output fault × IsUntold told
Answers (Some (Dump options)) input shelf output fault told =
    Dumps options input shelf output fault × IsUntold told

-- ---- what inputs come to, where nothing fails and memory is there

-- A row a job. Rules and a form say what is printed; of the faults only that of failing lines depends on rules.
abbrev pub ComesTo : Job → Inputs → Fault → Type 0
ComesTo (Script (Generate count)) inputs fault = fault ≡ Fine
ComesTo (Script Steer) inputs fault = SteeringComesTo inputs.text fault
ComesTo (Script job) inputs fault = RunningComesTo inputs.text fault
ComesTo (Decode options) inputs fault = DecodingComesTo options inputs fault
ComesTo (Dump options) inputs fault = DumpingComesTo options inputs fault

-- some inputs that are as told come to this
abbrev pub MayComeTo : Job → Option (List ℕ) → Option (List ℕ → Option (List ℕ)) → Fault → Type 0
MayComeTo job left told fault = (inputs : Inputs) × AreAsTold left told inputs × ComesTo job inputs fault

-- all inputs that are as told come to this
abbrev pub MustComeTo : Job → Option (List ℕ) → Option (List ℕ → Option (List ℕ)) → Fault → Type 0
MustComeTo job left told fault = (inputs : Inputs) → AreAsTold left told inputs → ComesTo job inputs fault

-- ---- where something fails, or memory is wanting

-- only a generated script isn't read from the source
abbrev pub ReadsSource : Job → Type 0
ReadsSource (Script (Generate count)) = ⊥
ReadsSource job = Unit {0}

-- only the table of a recording or of an image, and its places, are on the shelf
abbrev pub AsksShelf : Job → Type 0
AsksShelf (Script job) = ⊥
AsksShelf job = Unit {0}

-- This is so of the fault, or memory was wanting, or what the job uses of the outside failed and its count rose.
-- Whether a run fails on a level depends on its lines; else all was done.
abbrev pub OrFails : Job → Input → Files → Output → (Fault → Type 0) → Fault → Type 0
OrFails (Script job) input shelf output Is (Level level count) = Is Fine
OrFails job input shelf output Is fault = OrFailing (ReadsSource job) (AsksShelf job) input shelf output Is fault
