-- A symbol as plain data (ELF gABI, "Symbol Table": the name that st_name points to, and st_value).
use Rattle.std.specs.Prelude.{ℕ, List, map}
use Rattle.elf_section.specs.declared.symbols.Symbol.{Symbol}
use Rattle.elf_section.specs.declared.symbols.SymbolRef.{SymbolRef}

pub record PlainSymbol : Type 0 where
  pub name : List ℕ
  pub value : ℕ

-- a symbol without the room of its bytes
abbrev pub plain : Symbol → PlainSymbol
plain s = record { name = s.name.items; value = s.value }

abbrev pub plain_all : List Symbol → List PlainSymbol
plain_all symbols = map plain symbols

-- the same of one whose name stands in a file
abbrev pub plain_ref : SymbolRef → PlainSymbol
plain_ref s = record { name = s.name.now; value = s.value }

abbrev pub plain_refs : List SymbolRef → List PlainSymbol
plain_refs symbols = map plain_ref symbols
