-- What the calls answer.
use Rattle.std.specs.Prelude.{◌≡◌, ℕ, List, Result, Ok, Err}
use Rattle.defmt_lines.specs.Cause.{cause_number, inner_number}
use Rattle.defmt_lines.specs.Line.{Line}
use Rattle.defmt_lines.specs.declared.cause.Cause.{Cause}
use Rattle.defmt_script.specs.Reads.{Reads, Takes}
use Rattle.defmt_script.specs.Script.{Script, Refusal}
use Rattle.defmt_script.specs.State.{State}
use Rattle.defmt_script.specs.declared.fault.LineFault.{LineFault}
use Rattle.defmt_script.specs.declared.fault.LineFault.TheVariants as line_faults
use Rattle.defmt_script.specs.declared.fault.ScriptFault.{ScriptFault}
use Rattle.defmt_script.specs.declared.fault.ScriptFault.TheVariants as faults

-- a script that the text reads as, its first refused line, or want of memory
abbrev pub Answers : List ℕ → Result Script ScriptFault → Type 0
Answers text (Ok script) = Reads text (Ok script)
Answers text (Err (faults.Refused line cause inner)) =
    Reads text (Err (record { line = line; cause = cause; inner = inner }))
Answers text (Err faults.Memory) = Unit {0}

-- this reading, unless memory runs out
abbrev pub GivesOnly : Result Script ScriptFault → Result Script Refusal → Type 0
GivesOnly (Ok script) read = read ≡ Ok script
GivesOnly (Err (faults.Refused line cause inner)) read =
    read ≡ Err (record { line = line; cause = cause; inner = inner })
GivesOnly (Err faults.Memory) read = Unit {0}

-- ---- one line

-- what is answered for a line of this number that isn't taken
abbrev pub fault_of : ℕ → LineFault → ScriptFault
fault_of line (line_faults.Refused cause) =
    faults.Refused line (cause_number cause) (inner_number cause)
fault_of line line_faults.Memory = faults.Memory

-- the line was taken, or is refused, or memory ran out
abbrev pub TakesLine : State → Line → Result (Unit {0}) LineFault → State → Type 0
TakesLine old line (Ok done) new = Takes old line (Ok new)
TakesLine old line (Err (line_faults.Refused cause)) new = Takes old line (Err cause)
TakesLine old line (Err line_faults.Memory) new = Unit {0}

-- this is what becomes of the state, unless memory runs out
abbrev pub Becomes : Result State Cause → Result (Unit {0}) LineFault → State → Type 0
Becomes taken (Ok done) new = taken ≡ Ok new
Becomes taken (Err (line_faults.Refused cause)) new = taken ≡ Err cause
Becomes taken (Err line_faults.Memory) new = Unit {0}
