use Rattle.std.proofs.Common.{◌≡◌, ◌++◌, take}
use Rattle.elf_section.specs.Symbol.{plain_all}
use Rattle.elf_section.specs.Written.{listed_all, names}
use Rattle.elf_section.proofs.writing.push_names.Given as goal

abbrev pub invariant-loop-symbol : goal.invariant-loop-symbol
invariant-loop-symbol l = l.out.items ≡ l.fn.out.items ++ names (take l.symbol-index (listed_all (plain_all l.symbols)))
