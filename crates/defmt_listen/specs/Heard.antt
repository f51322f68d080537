-- What is heard in a recording, and what is written of it.
use Rattle.std.specs.Prelude.{◌≡◌, ◌≤◌, ◌<◌, ◌+◌, ℕ, Bool, Option, List, [], ◌∷◌, ◌++◌, length, take, filter, option_to_list}
use Rattle.std.specs.Io.KnownBytes.{Appends, Consumes, IsAtEnd}
use Rattle.dl_io.specs.Outside.{Rose}
use Rattle.defmt_framing.specs.Calls.{HeardAs}
use Rattle.defmt_framing.specs.Told.{Tells, events, begun}
use Rattle.defmt_framing.specs.Framing.{Framing, Stands, Hears}
use Rattle.defmt_listen.specs.Streams.{Input, Output, Wrote, WroteFront, IsRest}
use Rattle.defmt_listen.specs.declared.crew.Behind.{Behind}
use Rattle.defmt_listen.specs.declared.crew.Behind.TheVariants.{More, End, Fault}
use Rattle.defmt_listen.specs.declared.fault.ListenFault.{ListenFault}
use Rattle.defmt_listen.specs.declared.fault.ListenFault.TheVariants.{Source, Sink, Long, Memory}
use Rattle.defmt_listen.specs.declared.reporter.Passing.{Passing}
use Rattle.defmt_listen.specs.declared.reporter.Passing.TheVariants.{Kept, LeftOut, Asked}

-- the most bytes of a recording, where no other number is said
abbrev pub recording_limit : ℕ
recording_limit = 268435456

-- How events are reported one after the other: what is printed of an event in a state, the state behind it, and whether it is
-- a fault.
pub record Reporting (S E : Type 0) : Type 0 where
  pub line : S → E → List ℕ
  pub after : S → E → S
  pub is_fault : E → Bool

-- the reporter says what is printed of a line before it sees the text
abbrev pub IsSettled : Passing → Type 0
IsSettled Kept = Unit {0}
IsSettled LeftOut = Unit {0}
IsSettled Asked = ⊥

-- what is printed of some events from a state on
abbrev pub lines_from : {S E : Type 0} → Reporting S E → S → List E → List ℕ
lines_from reporting state [] = []
lines_from reporting state (event ∷ told) = reporting.line state event ++ lines_from reporting (reporting.after state event) told

-- the state behind them
abbrev pub state_behind : {S E : Type 0} → Reporting S E → S → List E → S
state_behind reporting state [] = state
state_behind reporting state (event ∷ told) = state_behind reporting (reporting.after state event) told

-- how many of them are faults
abbrev pub faults_among : {S E : Type 0} → Reporting S E → List E → ℕ
faults_among reporting told = length (filter reporting.is_fault told)

-- what the parts of a recording tell, how it is reported, from which state on, and how many bytes it may have
pub record Reports (S E : Type 0) : Type 0 where
  pub tells : Tells E
  pub reporting : Reporting S E
  pub start : S
  pub limit : ℕ

-- what is printed of some events
abbrev pub lines : {S E : Type 0} → Reports S E → List E → List ℕ
lines reports told = lines_from reports.reporting reports.start told

-- how many of them are faults
abbrev pub faults : {S E : Type 0} → Reports S E → List E → ℕ
faults reports told = faults_among reports.reporting told

-- The whole recording was taken, the lines of its events were written, and so many of these are faults.
pub record HeardAll {S E : Type 0} (reports : Reports S E) (input : Input) (output : Output) (count : ℕ) : Type 0 where
  pub recording : List ℕ
  pub taken : Consumes input.left input.left_after recording
  pub at_end : IsAtEnd input.left_after
  pub within : length recording ≤ reports.limit
  pub written : Wrote output (lines reports (events reports.tells recording))
  pub counted : count ≡ faults reports (events reports.tells recording)

-- The same, and the reporter went on behind them.
pub record HeardTo {S E : Type 0} (reports : Reports S E) (input : Input) (output : Output) (count : ℕ) (after : S) : Type 0 where
  pub all : HeardAll reports input output count
  pub moved : after ≡ state_behind reports.reporting reports.start (events reports.tells all.recording)

-- These bytes were taken, and all that is begun in them was written.
pub record HeardBegun {S E : Type 0} (reports : Reports S E) (input : Input) (output : Output) : Type 0 where
  pub bytes : List ℕ
  pub taken : Consumes input.left input.left_after bytes
  pub within : length bytes ≤ reports.limit
  pub written : Wrote output (lines reports (begun reports.tells bytes))

-- One byte more than the limit was taken, and all that is begun in those before it was written.
pub record HeardTooMuch {S E : Type 0} (reports : Reports S E) (input : Input) (output : Output) : Type 0 where
  pub bytes : List ℕ
  pub taken : Consumes input.left input.left_after bytes
  pub size : length bytes ≡ reports.limit + 1
  pub written : Wrote output (lines reports (begun reports.tells (take reports.limit bytes)))

-- These bytes were taken, and a front of the lines of a recording was written that begins with them. Where the source tells
-- what it has left, the recording goes on with that.
pub record HeardFront {S E : Type 0} (reports : Reports S E) (input : Input) (output : Output) : Type 0 where
  pub bytes : List ℕ
  pub rest : List ℕ
  pub taken : Consumes input.left input.left_after bytes
  pub within : length bytes ≤ reports.limit
  pub is_rest : IsRest input.left_after rest
  pub written : WroteFront output (lines reports (events reports.tells (bytes ++ rest)))

-- what stands at each fault
abbrev pub Breaks : {S E : Type 0} → Reports S E → Input → Output → ListenFault → Type 0
Breaks reports input output Source = HeardBegun reports input output × Rose input.faults input.faults_after
Breaks reports input output Sink = HeardFront reports input output × Rose output.faults output.faults_after
Breaks reports input output Long = HeardTooMuch reports input output
Breaks reports input output Memory = HeardFront reports input output

-- ---- turns

-- A source may be read wherever what is begun in all that was taken of it is written. So whoever reads it shows that each time.
abbrev pub TakesTurns : {T E S K : Type 0} → Reports T E → (S → Option (List ℕ)) → (K → Option (List ℕ)) → (S → K → Type 0) → S → K → Type 0
TakesTurns reports left held may src out =
    (bytes : List ℕ) (src_now : _) (out_now : _) → Consumes (left src) (left src_now) bytes
    → Appends (held out) (held out_now) (lines reports (begun reports.tells bytes)) → may src_now out_now

-- ---- bytes at hand

-- The lines of the events of these bytes were written, and so many of these are faults.
pub record ToldAll {S E : Type 0} (reports : Reports S E) (bytes : List ℕ) (output : Output) (count : ℕ) : Type 0 where
  pub written : Wrote output (lines reports (events reports.tells bytes))
  pub counted : count ≡ faults reports (events reports.tells bytes)

-- A front of them was written: the sink failed, or memory was wanting.
abbrev pub ToldFront : {S E : Type 0} → Reports S E → List ℕ → Output → ListenFault → Type 0
ToldFront reports bytes output Sink =
    WroteFront output (lines reports (events reports.tells bytes)) × Rose output.faults output.faults_after
ToldFront reports bytes output Memory = WroteFront output (lines reports (events reports.tells bytes))
ToldFront reports bytes output Source = ⊥
ToldFront reports bytes output Long = ⊥

-- From the stream on these bytes were heard, and the reporter went on behind what they tell.
pub record Reported {S E : Type 0} (tells : Tells E) (reporting : Reporting S E) (after : Framing) (state state_after : S) (stream bytes : List ℕ) : Type 0 where
  pub told : List E
  pub as_told : HeardAs tells after stream bytes told
  pub moved : state_after ≡ state_behind reporting state told

-- ---- for private clauses

-- So many of these bytes were heard, and what they tell, which is one event or none, is gathered and counted.
pub record HearsNext {S E : Type 0} (tells : Tells E) (reporting : Reporting S E) (before after : Framing) (state state_after : S) (lines lines_after : List ℕ) (count count_after : ℕ) (bytes : List ℕ) (taken : ℕ) : Type 0 where
  pub event : Option E
  pub within : taken ≤ length bytes
  pub some : 0 < taken
  pub hears : (stream : List ℕ) → Stands before stream → Hears tells after stream (take taken bytes) event
  pub gathered : lines_after ≡ lines ++ lines_from reporting state (option_to_list event)
  pub moved : state_after ≡ state_behind reporting state (option_to_list event)
  pub counted : count_after ≡ count + faults_among reporting (option_to_list event)

-- From the stream on these bytes were heard, and what they tell was written and counted.
pub record HeardPart {S E : Type 0} (tells : Tells E) (reporting : Reporting S E) (after : Framing) (state state_after : S) (output : Output) (stream bytes : List ℕ) (count count_after : ℕ) : Type 0 where
  pub told : List E
  pub as_told : HeardAs tells after stream bytes told
  pub moved : state_after ≡ state_behind reporting state told
  pub written : Wrote output (lines_from reporting state told)
  pub counted : count_after ≡ count + faults_among reporting told

-- From the stream on a front of these bytes was heard, and a front of what is printed of it was written.
pub record HeardSome {S E : Type 0} (tells : Tells E) (reporting : Reporting S E) (state : S) (output : Output) (stream bytes : List ℕ) : Type 0 where
  pub front : List ℕ
  pub rest : List ℕ
  pub told : List E
  pub is : bytes ≡ front ++ rest
  pub tells_all : begun tells (stream ++ front) ≡ begun tells stream ++ told
  pub written : WroteFront output (lines_from reporting state told)

-- why not all bytes of a part were heard
abbrev pub BreaksPart : Type 0 → ListenFault → Type 0
BreaksPart sink Sink = sink
BreaksPart sink Memory = Unit {0}
BreaksPart sink Source = ⊥
BreaksPart sink Long = ⊥

-- nothing is read ahead where nothing more comes
abbrev pub IsDrained : List ℕ → Behind → Type 0
IsDrained ahead More = Unit {0}
IsDrained ahead End = ahead ≡ []
IsDrained ahead Fault = ahead ≡ []

-- this is so of the source, which had failed so often before
abbrev pub IsMet : ℕ → Option (List ℕ) → ℕ → Behind → Type 0
IsMet count left faults More = Unit {0}
IsMet count left faults End = IsAtEnd left
IsMet count left faults Fault = Rose count faults
