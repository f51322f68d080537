-- The fields of an ELF file, as numbers at places (ELF gABI, "ELF Header", "Sections", "String Table", "Symbol Table").
use Rattle.std.specs.Prelude.{◌≡◌, ◌≤◌, ◌<◌, ◌+◌, ◌*◌, ◌/◌, ℕ, List, length, take, drop, Option, Some, codes, bit_and}
use Rattle.byte_images.specs.Elf.{class_of}
use Rattle.byte_images.specs.Fields.{number}
use Rattle.elf_section.specs.Bytes.{text_at}
use Rattle.byte_images.specs.declared.elf.Class.{Class}
use Rattle.byte_images.specs.declared.elf.Class.TheVariants.{Elf32, Elf64}
use Rattle.elf_section.specs.declared.file.Header.{Header}
use Rattle.elf_section.specs.declared.file.Section.{Section}
use Rattle.elf_section.specs.declared.file.RawSymbol.{RawSymbol}

-- ---- the two tables of places

abbrev pub section_len : Class → ℕ
section_len Elf32 = 40
section_len Elf64 = 64

abbrev pub symbol_len : Class → ℕ
symbol_len Elf32 = 16
symbol_len Elf64 = 24

unfoldable pub header_in : Class → List ℕ → Header
header_in Elf32 file = record {
  shoff = number 32 4 file;
  shentsize = number 46 2 file;
  shnum = number 48 2 file;
  shstrndx = number 50 2 file;
}
header_in Elf64 file = record {
  shoff = number 40 8 file;
  shentsize = number 58 2 file;
  shnum = number 60 2 file;
  shstrndx = number 62 2 file;
}

unfoldable pub section_in : Class → ℕ → List ℕ → Section
section_in Elf32 at file = record {
  name = number at 4 file;
  kind = number (at + 4) 4 file;
  flags = number (at + 8) 4 file;
  offset = number (at + 16) 4 file;
  size = number (at + 20) 4 file;
  link = number (at + 24) 4 file;
  entry_size = number (at + 36) 4 file;
}
section_in Elf64 at file = record {
  name = number at 4 file;
  kind = number (at + 4) 4 file;
  flags = number (at + 8) 8 file;
  offset = number (at + 24) 8 file;
  size = number (at + 32) 8 file;
  link = number (at + 40) 4 file;
  entry_size = number (at + 56) 8 file;
}

unfoldable pub symbol_in : Class → ℕ → List ℕ → RawSymbol
symbol_in Elf32 at file = record {
  name = number at 4 file;
  value = number (at + 4) 4 file;
  section = number (at + 14) 2 file;
}
symbol_in Elf64 at file = record {
  name = number at 4 file;
  value = number (at + 8) 8 file;
  section = number (at + 6) 2 file;
}

-- ---- of a file

abbrev pub header : List ℕ → Header
header file = header_in (class_of file) file

abbrev pub section : List ℕ → ℕ → Section
section file i =
    section_in (class_of file) ((header file).shoff + i * section_len (class_of file)) file

-- the section lies in the file
abbrev pub Fits : List ℕ → Section → Type 0
Fits file s = s.offset + s.size ≤ length file

-- the section's bytes
abbrev pub contents : List ℕ → Section → List ℕ
contents file s = take s.size (drop s.offset file)

-- the bytes of the section of the sections' names
abbrev pub section_names : List ℕ → List ℕ
section_names file = contents file (section file (header file).shstrndx)

-- the name of a section
abbrev pub section_name : List ℕ → ℕ → Option (List ℕ)
section_name file i = text_at (section file i).name (section_names file)

-- the section lacks the flag SHF_COMPRESSED
abbrev pub IsPlain : Section → Type 0
IsPlain s = bit_and s.flags 0x800 ≡ 0

-- the first section with this property
pub record IsFirst (file : List ℕ) (Has : ℕ → Type 0) (i : ℕ) : Type 0 where
  pub below : i < (header file).shnum
  pub has : Has i
  pub first : (j : ℕ) → j < i → Has j → ⊥

-- the section `.defmt`
abbrev pub HasDefmtName : List ℕ → ℕ → Type 0
HasDefmtName file i = section_name file i ≡ Some (codes ".defmt")

abbrev pub IsDefmt : List ℕ → ℕ → Type 0
IsDefmt file i = IsFirst file (HasDefmtName file) i

-- a symbol table that isn't compressed (SHT_SYMTAB)
abbrev pub HasSymbols : List ℕ → ℕ → Type 0
HasSymbols file i = ((section file i).kind ≡ 2) × IsPlain (section file i)

abbrev pub IsSymbols : List ℕ → ℕ → Type 0
IsSymbols file i = IsFirst file (HasSymbols file) i

-- the section of the strings of the symbols in section i
abbrev pub strings : List ℕ → ℕ → Section
strings file i = section file (section file i).link

-- the symbols in section i: how many, symbol k, and its name
abbrev pub count : List ℕ → ℕ → ℕ
count file i = (section file i).size / symbol_len (class_of file)

abbrev pub symbol : List ℕ → ℕ → ℕ → RawSymbol
symbol file i k =
    symbol_in (class_of file) ((section file i).offset + k * symbol_len (class_of file)) file

abbrev pub symbol_name : List ℕ → ℕ → ℕ → Option (List ℕ)
symbol_name file i k = text_at (symbol file i k).name (contents file (strings file i))
