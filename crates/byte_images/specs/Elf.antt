-- The class of an ELF file, and the length of its header (ELF gABI, "ELF Header").
use Rattle.std.specs.Prelude.{◌==◌, ℕ, List, slice_index, if◌then◌else◌}
use Rattle.byte_images.specs.declared.elf.Class.{Class}
use Rattle.byte_images.specs.declared.elf.Class.TheVariants.{Elf32, Elf64}

-- EI_CLASS
unfoldable pub class_of : List ℕ → Class
class_of file = if slice_index file 4 == 1 then Elf32 else Elf64

abbrev pub header_len : Class → ℕ
header_len Elf32 = 52
header_len Elf64 = 64
