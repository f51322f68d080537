-- The text of a job's script, and the script that it spells.
use Rattle.std.proofs.Common.{◌≡◌, inl, inr, ◌≤◌, ℕ, List, Ok, Err, refl, subst}
use Rattle.std.specs.Prelude.{IfErr, IfOk, Result}
use Rattle.defmt_generate.specs.Generated.{generated}
use Rattle.defmt_listen.specs.Streams.{Input}
use Rattle.defmt_recording.specs.declared.fault.Fault.{Fault}
use Rattle.defmt_recording.specs.declared.fault.Fault.TheVariants.{Memory, Script}
use Rattle.defmt_run.proofs.Deciding.{OneReading}
use Rattle.defmt_run.specs.Running.{Comes, ComesNot, GaveWhole, Stops, StopsBlocking, StopsFor, Suits, TextComes, Withholds, WithholdsBlocking}
use Rattle.defmt_script.specs.Reads.{Reads}
use Rattle.defmt_script.specs.Script.{Script as Read, count_all}
use Rattle.defmt_words.specs.declared.job.ScriptJob.{ScriptJob}
use Rattle.defmt_words.specs.declared.job.ScriptJob.TheVariants.{Generate, Steer}

-- a generated text reads as a script
abbrev pub IsReadable : Type 0
IsReadable = (count : ℕ) → count ≤ 4096 → (script : Read) × Reads (generated count) (Ok script) × (count_all script.writers ≡ count)

-- ---- where a script comes from

-- a text that gives no script, of a source that was read
withholds : (input : Input) (text : List ℕ) (fault : Fault) → GaveWhole input text → Stops text fault → Withholds input fault
withholds input text Memory whole stops = (text, whole.within, whole.taken)
withholds input text (Script line cause inner) whole stops = record { text = text; whole = whole; refused = stops }
withholds input text fault whole stops = absurd stops

withholds_blocking : (input : Input) (text : List ℕ) (fault : Fault) → GaveWhole input text → StopsBlocking text fault → WithholdsBlocking input fault
withholds_blocking input text fault whole (inl stops) = inl (withholds input text fault whole stops)
withholds_blocking input text (Script line cause inner) whole (inr other) = inr (other.0, other.1, record { text = text; whole = whole; other = other.2 })
withholds_blocking input text fault whole (inr other) = absurd other

-- a generated one gives one unless memory is wanting
never_stops : OneReading → IsReadable → (count : ℕ) (fault : Fault) → count ≤ 4096 → Stops (generated count) fault → fault ≡ Memory
never_stops one readable count Memory few stops = refl
never_stops one readable count (Script line cause inner) few stops =
    let read = readable count few in
    absurd (cc (one (generated count) (Ok read.0) (Err (record { line = line; cause = cause; inner = inner })) read.1 stops))
never_stops one readable count fault few stops = absurd stops

-- a text that is a script that suits the job
comes_as : (job : ScriptJob) (input : Input) (text : List ℕ) (s : Read) → TextComes job input text → Reads text (Ok s) → Suits job s → Comes job input s
comes_as (Generate count) input text s comes reads suits = (subst (λ (t : List ℕ). Reads t (Ok s)) comes.1 reads, comes.2)
comes_as Steer input text s whole reads suits = (record { text = text; whole = whole; reads = reads }, suits)
comes_as job input text s whole reads suits = record { text = text; whole = whole; reads = reads }

-- and one that gives none
stops_as : OneReading → IsReadable → (job : ScriptJob) (input : Input) (text : List ℕ) (fault : Fault) → TextComes job input text → StopsFor job text fault → ComesNot job input fault
stops_as one readable (Generate count) input text fault comes stops =
    (never_stops one readable count fault comes.0 (subst (λ (t : List ℕ). Stops t fault) comes.1 stops), comes.2)
stops_as one readable Steer input text fault whole stops = withholds_blocking input text fault whole stops
stops_as one readable job input text fault whole stops = withholds input text fault whole stops

pub comes_all : {E : Type 0} (job : ScriptJob) (input : Input) (text given : List ℕ) (answer : Result Read E) → TextComes job input text → given ≡ text
    → IfOk answer (λ (s : Read). Reads given (Ok s)) → IfOk answer (λ (s : Read). Suits job s) → IfOk answer (λ (s : Read). Comes job input s)
comes_all job input text given (Ok s) comes same reads suits = comes_as job input text s comes (subst (λ (t : List ℕ). Reads t (Ok s)) same reads) suits
comes_all job input text given (Err e) comes same reads suits = tt

pub stops_all : OneReading → IsReadable → (job : ScriptJob) (input : Input) (text given : List ℕ) (answer : Result Read Fault) → TextComes job input text → given ≡ text
    → IfErr answer (λ (f : Fault). StopsFor job given f) → IfErr answer (λ (f : Fault). ComesNot job input f)
stops_all one readable job input text given (Ok s) comes same stops = tt
stops_all one readable job input text given (Err fault) comes same stops =
    stops_as one readable job input text fault comes (subst (λ (t : List ℕ). StopsFor job t fault) same stops)

pub suits_other : (job : ScriptJob) (s : Read) → (job ≡ Steer → ⊥) → Suits job s
suits_other Steer s not_steer = absurd (not_steer refl)
suits_other job s not_steer = tt
