-- Refusals of a memory image: their causes and what is wrong with a core file, by number.
use Rattle.std.specs.Prelude.{◌≡◌, ℕ, Option, Some}
use Rattle.rtt_control.specs.declared.fault.ControlFault.{ControlFault}
use Rattle.rtt_control.specs.declared.fault.ControlFault.TheVariants as control
use Rattle.rtt_dump.specs.declared.fault.DumpFault.{DumpFault}
use Rattle.rtt_dump.specs.declared.fault.DumpFault.TheVariants.{Refused, Memory}
use Rattle.rtt_dump.specs.declared.fault.Cause.{Cause}
use Rattle.rtt_dump.specs.declared.fault.Cause.TheVariants.{NoId, Bounds, Offset, Flags, TwoIds, NoChannel, Core, Base}
use Rattle.rtt_dump.specs.declared.fault.Flaw.{Flaw}
use Rattle.rtt_dump.specs.declared.fault.Flaw.TheVariants.{Class, Order, Header, Kind, EntrySize, ProgramHeaders, Bytes, Addresses}

abbrev pub number_of : Cause → ℕ
number_of NoId = 1
number_of Bounds = 2
number_of Offset = 3
number_of Flags = 4
number_of TwoIds = 5
number_of NoChannel = 6
number_of Core = 7
number_of Base = 8

abbrev pub number_of_flaw : Flaw → ℕ
number_of_flaw Class = 1
number_of_flaw Order = 2
number_of_flaw Header = 3
number_of_flaw Kind = 4
number_of_flaw EntrySize = 5
number_of_flaw ProgramHeaders = 6
number_of_flaw Bytes = 7
number_of_flaw Addresses = 8

abbrev pub refused : Cause → ℕ → DumpFault
refused cause place = Refused (number_of cause) place

-- a core file with this flaw
abbrev pub flawed : Flaw → DumpFault
flawed flaw = refused Core (number_of_flaw flaw)

-- what a control block is refused for, with the same cause and place
abbrev pub of_block : ControlFault → DumpFault
of_block (control.Refused cause place) = Refused cause place
of_block control.Memory = Memory

-- the fault is this refusal, or want of memory
abbrev pub IsFault : Option DumpFault → DumpFault → Type 0
IsFault refusal Memory = Unit {0}
IsFault refusal (Refused cause place) = refusal ≡ Some (Refused cause place)
