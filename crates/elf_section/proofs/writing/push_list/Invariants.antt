use Rattle.std.proofs.Common.{◌≡◌, ◌+◌, ◌++◌, length, take}
use Rattle.elf_section.specs.Symbol.{plain_all}
use Rattle.elf_section.specs.Written.{listed_all, names, entries}
use Rattle.elf_section.proofs.writing.push_list.Given as goal

abbrev pub invariant-loop-symbol : goal.invariant-loop-symbol
invariant-loop-symbol l = (l.out.items ≡ l.fn.out.items ++ entries l.first (take l.symbol-index (listed_all (plain_all l.symbols)))) × (l.at ≡ l.first + length (names (take l.symbol-index (listed_all (plain_all l.symbols)))))
