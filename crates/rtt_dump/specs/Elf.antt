-- The fields of an ELF file, as numbers at places (ELF gABI, "ELF Header" and "Program Header").
use Rattle.std.specs.Prelude.{◌≡◌, ◌≤◌, ℕ, Bool, List, [], ◌∷◌, ◌+◌, ◌*◌, ◌==◌, ◌&&◌, length, map, nat_eq, nat_lt}
use Rattle.std.specs.List.{filter, range_with_len, starts_with}
use Rattle.byte_images.specs.Elf.{class_of}
use Rattle.byte_images.specs.Fields.{number}
use Rattle.byte_images.specs.declared.elf.Class.{Class}
use Rattle.byte_images.specs.declared.elf.Class.TheVariants.{Elf32, Elf64}
use Rattle.rtt_dump.specs.declared.elf.Header.{Header}
use Rattle.rtt_dump.specs.declared.elf.ProgramHeader.{ProgramHeader}
use Rattle.rtt_dump.specs.declared.elf.Table.{Table}

-- the file begins as each ELF file does
unfoldable pub is_elf : List ℕ → Bool
is_elf file = starts_with nat_eq file (0x7f ∷ 0x45 ∷ 0x4c ∷ 0x46 ∷ [])

-- ---- the two tables of places

-- the length of a program header
abbrev pub entry_len : Class → ℕ
entry_len Elf32 = 32
entry_len Elf64 = 56

-- e_type, e_phoff, e_phentsize and e_phnum
unfoldable pub header_in : Class → List ℕ → Header
header_in Elf32 file = record { kind = number 16 2 file; offset = number 28 4 file; entry_len = number 42 2 file; count = number 44 2 file }
header_in Elf64 file = record { kind = number 16 2 file; offset = number 32 8 file; entry_len = number 54 2 file; count = number 56 2 file }

-- p_type, p_offset, p_vaddr and p_filesz
unfoldable pub program_header_in : Class → ℕ → List ℕ → ProgramHeader
program_header_in Elf32 at file =
    record { kind = number at 4 file; offset = number (at + 4) 4 file; address = number (at + 8) 4 file; size = number (at + 16) 4 file }
program_header_in Elf64 at file =
    record { kind = number at 4 file; offset = number (at + 8) 8 file; address = number (at + 16) 8 file; size = number (at + 32) 8 file }

-- ---- of a file

abbrev pub header : List ℕ → Header
header file = header_in (class_of file) file

abbrev pub program_header : List ℕ → ℕ → ProgramHeader
program_header file k = program_header_in (class_of file) ((header file).offset + k * entry_len (class_of file)) file

-- a segment to load (PT_LOAD) with bytes in the file
abbrev pub is_loaded : ProgramHeader → Bool
is_loaded p = (p.kind == 1) && nat_lt 0 p.size

-- the program headers of the segments, in the file's order
abbrev pub loaded : List ℕ → List ProgramHeader
loaded file = filter is_loaded (map (program_header file) (range_with_len 0 (header file).count))

-- ---- for private clauses

-- the table of the program headers, which lies in the file
pub record IsTable (file : List ℕ) (table : Table) : Type 0 where
  pub class_is : table.class ≡ class_of file
  pub offset_is : table.offset ≡ (header file).offset
  pub count_is : table.count ≡ (header file).count
  pub fits : table.offset + table.count * entry_len table.class ≤ length file
