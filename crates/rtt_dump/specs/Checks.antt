-- The checks of a memory image in their order, and the refusal of each.
use Rattle.std.specs.Prelude.{◌≡◌, ◌≤◌, ◌<◌, ◌+◌, ◌*◌, ◌^◌, ◌⊎◌, ℕ, true, false, List, length, slice_index, slice_get, IfSome}
use Rattle.byte_images.specs.First.{Place, FirstToFail}
use Rattle.rtt_control.specs.Checks.{HasBlock, HasId, read_subject}
use Rattle.rtt_control.specs.Checks as control
use Rattle.rtt_control.specs.Layout.{block_of}
use Rattle.rtt_dump.specs.Dump.{first_id, holder}
use Rattle.byte_images.specs.Elf.{class_of, header_len}
use Rattle.rtt_dump.specs.Elf.{entry_len, header, is_elf, loaded}
use Rattle.rtt_dump.specs.Faults.{flawed, of_block, refused}
use Rattle.rtt_dump.specs.Ids.{ids, second_segment}
use Rattle.rtt_dump.specs.Segments.{Region, regions}
use Rattle.rtt_dump.specs.declared.elf.ProgramHeader.{ProgramHeader}
use Rattle.rtt_dump.specs.declared.fault.Cause.TheVariants.{NoId, TwoIds, NoChannel, Base}
use Rattle.rtt_dump.specs.declared.fault.DumpFault.{DumpFault}
use Rattle.rtt_dump.specs.declared.fault.DumpFault.TheVariants.{Refused, Memory}
use Rattle.rtt_dump.specs.declared.fault.Flaw.{Flaw}
use Rattle.rtt_dump.specs.declared.fault.Flaw.TheVariants as flaws

-- ---- a core file

-- n is the number of a segment
pub data CoreCheck : Type 0 where
  has_class : CoreCheck
  is_little : CoreCheck
  has_header : CoreCheck
  is_core : CoreCheck
  has_entry_len : CoreCheck
  has_program_headers : CoreCheck
  has_bytes : ℕ → CoreCheck
  has_addresses : ℕ → CoreCheck

abbrev pub core_place : CoreCheck → Place
core_place has_class = record { row = 0; index = 0 }
core_place is_little = record { row = 1; index = 0 }
core_place has_header = record { row = 2; index = 0 }
core_place is_core = record { row = 3; index = 0 }
core_place has_entry_len = record { row = 4; index = 0 }
core_place has_program_headers = record { row = 5; index = 0 }
core_place (has_bytes n) = record { row = 6; index = 2 * n }
core_place (has_addresses n) = record { row = 6; index = 2 * n + 1 }

-- the bytes of a segment lie in the file
abbrev pub HasBytes : List ℕ → ProgramHeader → Type 0
HasBytes file p = p.offset + p.size ≤ length file

-- a segment ends at the address 4,294,967,296 or before: an address has 32 bits
abbrev pub HasAddresses : ProgramHeader → Type 0
HasAddresses p = p.address + p.size ≤ 2 ^ 32

-- EI_CLASS is ELFCLASS32 or ELFCLASS64, EI_DATA is ELFDATA2LSB, e_type is ET_CORE
abbrev pub CoreHolds : List ℕ → CoreCheck → Type 0
CoreHolds file has_class = (slice_index file 4 ≡ 1) ⊎ (slice_index file 4 ≡ 2)
CoreHolds file is_little = slice_index file 5 ≡ 1
CoreHolds file has_header = header_len (class_of file) ≤ length file
CoreHolds file is_core = (header file).kind ≡ 4
CoreHolds file has_entry_len = (header file).entry_len ≡ entry_len (class_of file)
CoreHolds file has_program_headers = (header file).offset + (header file).count * entry_len (class_of file) ≤ length file
CoreHolds file (has_bytes n) = IfSome (slice_get (loaded file) n) (HasBytes file)
CoreHolds file (has_addresses n) = IfSome (slice_get (loaded file) n) HasAddresses

abbrev pub flaw_of : CoreCheck → Flaw
flaw_of has_class = flaws.Class
flaw_of is_little = flaws.Order
flaw_of has_header = flaws.Header
flaw_of is_core = flaws.Kind
flaw_of has_entry_len = flaws.EntrySize
flaw_of has_program_headers = flaws.ProgramHeaders
flaw_of (has_bytes n) = flaws.Bytes
flaw_of (has_addresses n) = flaws.Addresses

-- ---- any file

pub data FileCheck : Type 0 where
  in_core : CoreCheck → FileCheck
  ends_in_memory : FileCheck

abbrev pub file_place : FileCheck → Place
file_place (in_core c) = core_place c
file_place ends_in_memory = record { row = 7; index = 0 }

-- a file that begins as an ELF file is a core file, and any other ends at the address 4,294,967,296 or before
abbrev pub FileHolds : List ℕ → ℕ → FileCheck → Type 0
FileHolds file base (in_core c) = is_elf file ≡ true → CoreHolds file c
FileHolds file base ends_in_memory = is_elf file ≡ false → base + length file ≤ 2 ^ 32

abbrev pub file_fault : FileCheck → DumpFault
file_fault (in_core c) = flawed (flaw_of c)
file_fault ends_in_memory = refused Base 0

-- ---- an image: its file, the IDs in its segments, the block at the ID, and the channel

pub data Check : Type 0 where
  in_file : FileCheck → Check
  has_an_id : Check
  has_no_second : Check
  in_block : control.Check → Check
  has_channel : Check

-- the checks of a block stand one after the other in one row
abbrev pub place : Check → Place
place (in_file c) = file_place c
place has_an_id = record { row = 8; index = 0 }
place has_no_second = record { row = 9; index = 0 }
place (in_block c) = record { row = 10; index = 3 * (control.place c).row + (control.place c).index }
place has_channel = record { row = 11; index = 0 }

-- the checks of the block at a place of a segment
abbrev pub BlockHolds : Region → ℕ → control.Check → Type 0
BlockHolds here at c = control.Holds (HasId here.bytes at) (HasBlock here.bytes at) (read_subject here.bytes here.base at) c

abbrev pub Holds : List ℕ → ℕ → ℕ → Check → Type 0
Holds file base up (in_file c) = FileHolds file base c
Holds file base up has_an_id = 1 ≤ length (ids (regions file base))
Holds file base up has_no_second = length (ids (regions file base)) ≤ 1
Holds file base up (in_block c) = let all = regions file base in BlockHolds (holder all) (first_id all).at c
Holds file base up has_channel = let all = regions file base in up < length (block_of (holder all).bytes (first_id all).at).up

abbrev pub fault_of : List ℕ → ℕ → ℕ → Check → DumpFault
fault_of file base up (in_file c) = file_fault c
fault_of file base up has_an_id = refused NoId 0
fault_of file base up has_no_second = refused TwoIds (second_segment (ids (regions file base)))
fault_of file base up (in_block c) = of_block (control.refusal (first_id (regions file base)).at c)
fault_of file base up has_channel = refused NoChannel up

-- ---- what is answered

-- the fault of the first of some checks that doesn't hold
pub record IsFirstFault {C : Type 0} (place : C → Place) (Holds : C → Type 0) (fault_of : C → DumpFault) (fault : DumpFault) : Type 0 where
  pub check : C
  pub first : FirstToFail place Holds check
  pub is : fault ≡ fault_of check

abbrev pub OrMemory : (DumpFault → Type 0) → DumpFault → Type 0
OrMemory Is Memory = Unit {0}
OrMemory Is (Refused cause place) = Is (Refused cause place)

-- `segments`: the file is refused, or memory is missing
abbrev pub IsFileFault : List ℕ → ℕ → DumpFault → Type 0
IsFileFault file base = OrMemory (IsFirstFault file_place (FileHolds file base) file_fault)

abbrev pub FilePasses : List ℕ → ℕ → Type 0
FilePasses file base = (check : FileCheck) → FileHolds file base check

-- `dumped`: the image is refused, or memory is missing
abbrev pub IsDumpFault : List ℕ → ℕ → ℕ → DumpFault → Type 0
IsDumpFault file base up = OrMemory (IsFirstFault place (Holds file base up) (fault_of file base up))

abbrev pub Passes : List ℕ → ℕ → ℕ → Type 0
Passes file base up = (check : Check) → Holds file base up check
