use Rattle.std.proofs.Common.{◌≡◌, take}
use Rattle.elf_section.specs.Symbol.{plain_all, plain_refs}
use Rattle.elf_section.proofs.symbols.owned.Given as goal

abbrev pub invariant-loop-symbol : goal.invariant-loop-symbol
invariant-loop-symbol l = plain_all l.copies.items ≡ plain_refs (take l.symbol-index l.symbols)
