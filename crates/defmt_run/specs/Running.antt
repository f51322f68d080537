-- A job on a script, which the source gives or which is generated.
use Rattle.std.specs.Prelude.{◌≡◌, ◌⊎◌, ◌<◌, ◌≤◌, ℕ, true, false, List, length, Some, Result, Ok, Err}
use Rattle.std.specs.Str.Lines.{lines}
use Rattle.dl_io.specs.Outside.{Rose}
use Rattle.defmt_lines.specs.Settings.{is_block}
use Rattle.defmt_listen.specs.Streams.{Input, Output, Wrote, WroteFront}
use Rattle.defmt_script.specs.Reads.{Reads}
use Rattle.defmt_script.specs.Script.{Refusal, Script as Read}
use Rattle.defmt_generate.specs.Generated.{generated}
use Rattle.defmt_recording.specs.Calls.{GaveWithin, IsUnread, IsUnwritten, TookMore, TookWithin}
use Rattle.defmt_run.specs.Making.{Makes}
use Rattle.defmt_run.specs.Told.{IsUntold, Told}
use Rattle.defmt_recording.specs.declared.fault.Fault.{Fault}
use Rattle.defmt_recording.specs.declared.fault.Fault.TheVariants.{Fine, Memory, Source, Sink, Script, Long, Level}
use Rattle.defmt_words.specs.declared.job.ScriptJob.{ScriptJob}
use Rattle.defmt_words.specs.declared.job.ScriptJob.TheVariants.{Generate, Steer}
use Rattle.rtt_down.specs.Modes.{FirstMode}

-- the most bytes of a script
abbrev pub script_limit : ℕ
script_limit = 4194304

-- ---- where a script comes from, and why there is none

-- the source was read to its end, and gave this text
abbrev pub GaveWhole : Input → List ℕ → Type 0
GaveWhole input text = GaveWithin script_limit input text

-- the source was read to its end, and what it gave is the script
pub record Gave (input : Input) (s : Read) : Type 0 where
  pub text : List ℕ
  pub whole : GaveWhole input text
  pub reads : Reads text (Ok s)

-- a line of the text that the source gave is refused
pub record Refuses (input : Input) (refusal : Refusal) : Type 0 where
  pub text : List ℕ
  pub whole : GaveWhole input text
  pub refused : Reads text (Err refusal)

-- no more than a script was taken
abbrev pub TookShort : Input → Type 0
TookShort input = TookWithin script_limit input

-- Why the source gives no script: it failed, or has more than the limit, of which one byte more was taken, or a line is refused.
-- Want of memory is free.
abbrev pub Withholds : Input → Fault → Type 0
Withholds input Memory = TookShort input
Withholds input Source = Rose input.faults input.faults_after × TookShort input
Withholds input Long = TookMore script_limit input
Withholds input (Script line cause inner) = Refuses input (record { line = line; cause = cause; inner = inner })
Withholds input fault = ⊥

-- ---- a script that is steered, which is in blocking mode

abbrev pub GaveBlocking : Input → Read → Type 0
GaveBlocking input s = Gave input s × (is_block s.settings.mode ≡ true)

-- the text is a script in another mode, and this line is the first that sets one
abbrev pub SetsOther : List ℕ → ℕ → Type 0
SetsOther text line = (s : Read) × Reads text (Ok s) × (is_block s.settings.mode ≡ false) × FirstMode 1 (lines text) (Some line)

-- such a line of the text that the source gave
pub record RefusesMode (input : Input) (line : ℕ) : Type 0 where
  pub text : List ℕ
  pub whole : GaveWhole input text
  pub other : SetsOther text line

-- the cause 18, at that line
abbrev pub MayNotSteer : Input → Fault → Type 0
MayNotSteer input (Script line cause inner) = (cause ≡ 18) × (inner ≡ 0) × RefusesMode input line
MayNotSteer input fault = ⊥

abbrev pub WithholdsBlocking : Input → Fault → Type 0
WithholdsBlocking input fault = Withholds input fault ⊎ MayNotSteer input fault

-- ---- a text without a source

-- a text is the script
abbrev pub IsSpelled : List ℕ → Read → Type 0
IsSpelled text s = Reads text (Ok s)

-- why a text gives no script
abbrev pub Stops : List ℕ → Fault → Type 0
Stops text Memory = Unit {0}
Stops text (Script line cause inner) = Reads text (Err (record { line = line; cause = cause; inner = inner }))
Stops text fault = ⊥

-- and why one gives no script in blocking mode
abbrev pub IsOther : List ℕ → Fault → Type 0
IsOther text (Script line cause inner) = (cause ≡ 18) × (inner ≡ 0) × SetsOther text line
IsOther text fault = ⊥

abbrev pub StopsBlocking : List ℕ → Fault → Type 0
StopsBlocking text fault = Stops text fault ⊎ IsOther text fault

-- ---- where the script of a job comes from

-- the source, or a generated text, for which the source isn't touched
abbrev pub Comes : ScriptJob → Input → Read → Type 0
Comes (Generate count) input s = IsSpelled (generated count) s × IsUnread input
Comes Steer input s = GaveBlocking input s
Comes job input s = Gave input s

-- Why there is none. A generated text is a script, so there only memory may be wanting.
abbrev pub ComesNot : ScriptJob → Input → Fault → Type 0
ComesNot (Generate count) input fault = (fault ≡ Memory) × IsUnread input
ComesNot Steer input fault = WithholdsBlocking input fault
ComesNot job input fault = Withholds input fault

-- a script came, and the job made this of it, and comes to this fault once it is written
pub record Made (job : ScriptJob) (input : Input) (told : Told) (output : List ℕ) (fault : Fault) : Type 0 where
  pub script : Read
  pub comes : Comes job input script
  pub makes : Makes job script told output fault

-- ---- what stands at each fault

-- Where all was done, or the sink failed, there is a script, this is told of its run, and what was made of it was written, or a
-- front of that. At each other fault there is a cause, nothing was written, and nothing is told.
abbrev pub Runs : ScriptJob → Input → Output → Fault → Told → Type 0
Runs job input output Fine told = (text : List ℕ) × Made job input told text Fine × Wrote output text
Runs job input output (Level level count) told = (text : List ℕ) × Made job input told text (Level level count) × Wrote output text
Runs job input output Sink told =
    (text : List ℕ) × (due : Fault) × Made job input told text due × WroteFront output text × Rose output.faults output.faults_after
Runs job input output fault told = ComesNot job input fault × IsUnwritten output × IsUntold told

-- ---- what told inputs come to, where nothing fails and memory is there

-- a text that is read so
abbrev pub fault_of_read : Result Read Refusal → Fault
fault_of_read (Ok s) = Fine
fault_of_read (Err refusal) = Script refusal.line refusal.cause refusal.inner

-- the text of a script
abbrev pub ReadingComesTo : List ℕ → Fault → Type 0
ReadingComesTo text fault = (read : Result Read Refusal) × Reads text read × (fault ≡ fault_of_read read)

-- the text of the source
abbrev pub RunningComesTo : List ℕ → Fault → Type 0
RunningComesTo text fault = ((script_limit < length text) × (fault ≡ Long)) ⊎ ((length text ≤ script_limit) × ReadingComesTo text fault)

-- a text of a script that is steered
abbrev pub IsFaultOf : List ℕ → Result Read Refusal → Fault → Type 0
IsFaultOf text (Ok s) fault =
    ((is_block s.settings.mode ≡ true) × (fault ≡ Fine))
    ⊎ ((is_block s.settings.mode ≡ false) × ((line : ℕ) × FirstMode 1 (lines text) (Some line) × (fault ≡ Script line 18 0)))
IsFaultOf text (Err refusal) fault = fault ≡ fault_of_read (Err refusal)

abbrev pub BlockingComesTo : List ℕ → Fault → Type 0
BlockingComesTo text fault = (read : Result Read Refusal) × Reads text read × IsFaultOf text read fault

abbrev pub SteeringComesTo : List ℕ → Fault → Type 0
SteeringComesTo text fault = ((script_limit < length text) × (fault ≡ Long)) ⊎ ((length text ≤ script_limit) × BlockingComesTo text fault)

-- ---- for private clauses

-- what became of the output, where it was there and this fault is due
abbrev pub Writes : Output → List ℕ → Fault → Fault → Type 0
Writes output text due fault =
    ((fault ≡ due) × Wrote output text) ⊎ ((fault ≡ Sink) × WroteFront output text × Rose output.faults output.faults_after)

-- the text of a job's script
abbrev pub TextComes : ScriptJob → Input → List ℕ → Type 0
TextComes (Generate count) input text = (count ≤ 4096) × (text ≡ generated count) × IsUnread input
TextComes job input text = GaveWhole input text

-- a script that is steered is in blocking mode
abbrev pub Suits : ScriptJob → Read → Type 0
Suits Steer s = is_block s.settings.mode ≡ true
Suits job s = Unit {0}

-- why a text gives no script that suits the job
abbrev pub StopsFor : ScriptJob → List ℕ → Fault → Type 0
StopsFor Steer text fault = StopsBlocking text fault
StopsFor job text fault = Stops text fault
