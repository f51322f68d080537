use Rattle.elf_section.specs.Symbol.{plain_all}
use Rattle.elf_tests.proofs.WritableLaws.{IsShortList}
use Rattle.elf_tests.proofs.symbols.list_of.Given as goal

abbrev pub invariant-loop-line : goal.invariant-loop-line
invariant-loop-line l = IsShortList (plain_all l.list.items) l.line-index
