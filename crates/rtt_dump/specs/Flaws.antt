-- What a file is refused for, as a function of the file: its checks one after the other, and the first that doesn't hold.
use Rattle.std.specs.Prelude.{ℕ, Bool, not, List, [], ◌∷◌, ◌++◌, ◌+◌, ◌*◌, ◌==◌, ◌||◌, length, nat_le, slice_index, Option, Some, None, option_map, if◌then◌else◌}
use Rattle.std.specs.List.{find, flat_map}
use Rattle.byte_images.specs.Elf.{class_of, header_len}
use Rattle.rtt_dump.specs.Elf.{entry_len, header, is_elf, loaded}
use Rattle.rtt_dump.specs.Faults.{flawed, refused}
use Rattle.rtt_dump.specs.declared.elf.ProgramHeader.{ProgramHeader}
use Rattle.rtt_dump.specs.declared.fault.Cause.TheVariants.{Base}
use Rattle.rtt_dump.specs.declared.fault.DumpFault.{DumpFault}
use Rattle.rtt_dump.specs.declared.fault.Flaw.{Flaw}
use Rattle.rtt_dump.specs.declared.fault.Flaw.TheVariants as flaws

-- a check of a core file, or of the program header of one of its segments
pub data Test : Type 0 where
  has_class : Test
  is_little : Test
  has_header : Test
  is_core : Test
  has_entry_len : Test
  has_program_headers : Test
  has_bytes : ProgramHeader → Test
  has_addresses : ProgramHeader → Test

-- in their order: those of the header, then two of each segment
abbrev pub header_tests : List Test
header_tests = has_class ∷ is_little ∷ has_header ∷ is_core ∷ has_entry_len ∷ has_program_headers ∷ []

abbrev pub segment_tests : ProgramHeader → List Test
segment_tests p = has_bytes p ∷ has_addresses p ∷ []

abbrev pub tests : List ℕ → List Test
tests file = header_tests ++ flat_map segment_tests (loaded file)

abbrev pub holds : List ℕ → Test → Bool
holds file has_class = (slice_index file 4 == 1) || (slice_index file 4 == 2)
holds file is_little = slice_index file 5 == 1
holds file has_header = nat_le (header_len (class_of file)) (length file)
holds file is_core = (header file).kind == 4
holds file has_entry_len = (header file).entry_len == entry_len (class_of file)
holds file has_program_headers = nat_le ((header file).offset + (header file).count * entry_len (class_of file)) (length file)
holds file (has_bytes p) = nat_le (p.offset + p.size) (length file)
holds file (has_addresses p) = nat_le (p.address + p.size) 4294967296

abbrev pub flaw_of : Test → Flaw
flaw_of has_class = flaws.Class
flaw_of is_little = flaws.Order
flaw_of has_header = flaws.Header
flaw_of is_core = flaws.Kind
flaw_of has_entry_len = flaws.EntrySize
flaw_of has_program_headers = flaws.ProgramHeaders
flaw_of (has_bytes p) = flaws.Bytes
flaw_of (has_addresses p) = flaws.Addresses

-- the first of these checks that doesn't hold
unfoldable pub first_flaw : List ℕ → List Test → Option Flaw
first_flaw file list = option_map flaw_of (find (λ check. not (holds file check)) list)

-- what a core file is refused for, or any other file
abbrev pub file_refusal : List ℕ → ℕ → Option DumpFault
file_refusal file base = if is_elf file then option_map flawed (first_flaw file (tests file))
    else if nat_le (base + length file) 4294967296 then None
    else Some (refused Base 0)
