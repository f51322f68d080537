-- A symbol table that was found and checked.
use Rattle.std.specs.Prelude.{◌≡◌, ◌<◌, ◌^◌, ℕ, List, length}
use Rattle.byte_images.specs.Elf.{class_of}
use Rattle.elf_section.specs.File.{section, contents, IsSymbols, strings, count}
use Rattle.elf_section.specs.Checks.{Passed}
use Rattle.elf_section.specs.declared.table.SymbolTable.{SymbolTable}

-- the table is that of the file
pub record IsOpen (file : List ℕ) (table : SymbolTable) : Type 0 where
  pub short : length file < 2 ^ 32
  pub passed : Passed file 14
  pub symbols : IsSymbols file table.number
  pub class_is : table.class ≡ class_of file
  pub offset_is : table.offset ≡ (section file table.number).offset
  pub count_is : table.count ≡ count file table.number
  pub strings_are : table.strings ≡ contents file (strings file table.number)
