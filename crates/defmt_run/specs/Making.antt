-- What a job makes of a script, before it is written.
use Rattle.std.specs.Prelude.{◌≡◌, false, List, [], ℕ, Some, None}
use Rattle.defmt_decode.specs.declared.event.Event.{Event}
use Rattle.defmt_logger.specs.Tape.{stream_of}
use Rattle.defmt_print.specs.Printed.{statement_lines, summary}
use Rattle.defmt_print.specs.RunLines.{run_failing, run_lines, steered_lines}
use Rattle.defmt_recording.specs.Decoding.{fault_by}
use Rattle.defmt_recording.specs.declared.fault.Fault.{Fault}
use Rattle.defmt_recording.specs.declared.fault.Fault.TheVariants.{Fine}
use Rattle.defmt_run.specs.Shown.{spoken_lines}
use Rattle.defmt_run.specs.Told.{IsHeard, IsUnspoken, IsUnsteered, IsUntold, Ran, Spoke, Steered, Told, steered_of, told_of}
use Rattle.defmt_script.specs.Script.{Script}
use Rattle.defmt_words.specs.declared.job.RunOptions.{RunOptions}
use Rattle.defmt_words.specs.declared.job.ScriptJob.{ScriptJob}
use Rattle.defmt_words.specs.declared.job.ScriptJob.TheVariants.{Run, Record, Terminals, Steer, Table, Print, Generate}
use Rattle.defmt_writers.specs.Runs.{IsRun}
use Rattle.defmt_steer.specs.Steers.{IsSteeredRun}
use Rattle.defmt_talk.specs.Talks.{IsTalk}
use Rattle.defmt_writers.specs.declared.script_run.Run.{Run as ScriptRun}
use Rattle.defmt_steer.specs.declared.steer_run.SteeredRun.{SteeredRun}
use Rattle.defmt_talk.specs.declared.talk_run.Talk.{Talk}
use Rattle.elf_section.specs.Written.{written}
use Rattle.elf_table.specs.Listed.{symbols_in}
use Rattle.rtt_booth.specs.Kept.{Reel as Said}
use Rattle.rtt_ring.specs.Account.{Account}
use Rattle.rtt_ring.specs.declared.settled.RingKind.TheVariants.{Word}

-- the script was run, without orders, and the host heard what was sent
abbrev pub RanHeard : Script → Told → Type 0
RanHeard s told = (account : Account) × Ran s account told × IsHeard s account told × IsUnsteered told

-- the same, and no text was said on a terminal
abbrev pub RanAlone : Script → Told → Type 0
RanAlone s told = RanHeard s told × IsUnspoken told

-- the same, and its texts were said on terminals
abbrev pub RanSpoken : Script → Told → Type 0
RanSpoken s told = RanHeard s told × ((account : Account) × Spoke s account told)

-- the script was run, no host heard it, and no text was said on a terminal
abbrev pub RanUnheard : Script → Told → Type 0
RanUnheard s told = (account : Account) × Ran s account told × (told.events ≡ []) × IsUnspoken told × IsUnsteered told

-- the script was run under its orders
abbrev pub RanSteered : Script → Told → Type 0
RanSteered s told = (account : Account) × (orders : Account) × Steered s account orders told

-- what the lines of a run come to: the program fails where one is printed of a level that the words name, or of a more severe one
abbrev pub fault_of_run : RunOptions → Script → Told → Fault
fault_of_run options s told = fault_by options.style.fail_on (run_failing options s told.tape told.events) 0

-- A row a job: what is told of a run, what is to be written, and what is answered once all of it is written.
abbrev pub Makes : ScriptJob → Script → Told → List ℕ → Fault → Type 0
Makes (Run options) s told output fault =
    RanAlone s told × (output ≡ run_lines options s told.tape told.events) × (fault ≡ fault_of_run options s told)
Makes Record s told output fault = RanUnheard s told × (output ≡ stream_of s told.tape) × (fault ≡ Fine)
Makes Terminals s told output fault = RanSpoken s told × (output ≡ spoken_lines s told.tape told.events told.said) × (fault ≡ Fine)
Makes Steer s told output fault = RanSteered s told × (output ≡ steered_lines s told.turns told.events) × (fault ≡ Fine)
Makes Table s told output fault = IsUntold told × (output ≡ written s.settings.profile (symbols_in s.table)) × (fault ≡ Fine)
Makes Print s told output fault = IsUntold told × (output ≡ statement_lines s) × (fault ≡ Fine)
Makes (Generate count) s told output fault = RanAlone s told × (output ≡ summary s told.tape) × (fault ≡ Fine)

-- ---- for private clauses

-- it is a run of its script over a word ring
abbrev pub IsWordRun : ScriptRun → Type 0
IsWordRun run =
    IsRun run.script run.tape run.settled run.captured.items run.rest.items run.looks × (run.settled.ring ≡ Word)
    × (run.script.settings.late ≡ false → run.settled.got ≡ run.settled.sent)

-- its texts were said over a word ring
abbrev pub IsWordTalk : ScriptRun → Talk → Type 0
IsWordTalk run talk =
    IsTalk run.script.said talk.said talk.settled talk.captured.items talk.rest.items × (talk.settled.ring ≡ Word)
    × (talk.settled.got ≡ talk.settled.sent)

-- it is a run of its script under orders over two word rings
abbrev pub IsWordSteered : SteeredRun → Type 0
IsWordSteered run =
    IsSteeredRun run.script run.turns run.settled run.captured.items run.rest.items run.orders run.unheard.items
    × (run.settled.ring ≡ Word) × (run.orders.ring ≡ Word)

-- a job that logs the script, and says no texts for terminals
abbrev pub IsLogged : ScriptJob → Type 0
IsLogged (Run options) = Unit {0}
IsLogged Record = Unit {0}
IsLogged (Generate count) = Unit {0}
IsLogged job = ⊥

-- what a job makes of such a run, of which the host tells these events
abbrev pub MakesAlone : ScriptJob → ScriptRun → List Event → List ℕ → Fault → Type 0
MakesAlone job run events output fault = (said : Said) → (said.words ≡ []) × (said.split ≡ [])
    → Makes job run.script (told_of run.tape run.settled events run.looks said None) output fault

-- the same of a run whose texts were said
abbrev pub MakesSpoken : ScriptRun → Talk → List Event → List ℕ → Fault → Type 0
MakesSpoken run talk events output fault =
    Makes Terminals run.script (told_of run.tape run.settled events run.looks talk.said (Some talk.settled)) output fault

-- the same of a run under orders
abbrev pub MakesSteered : SteeredRun → List Event → List ℕ → Fault → Type 0
MakesSteered run events output fault = Makes Steer run.script (steered_of run.turns run.settled events run.orders) output fault
