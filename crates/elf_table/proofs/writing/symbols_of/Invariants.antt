use Rattle.std.proofs.Common.{◌≡◌, map as map_list}
use Rattle.std.specs.List.{All}
use Rattle.elf_section.specs.Symbol.{plain_all}
use Rattle.elf_table.specs.Listed.{symbol_of, IsNamed}
use Rattle.elf_table.proofs.ListedLaws.{item_of}
use Rattle.elf_table.proofs.writing.symbols_of.Given as goal

abbrev pub invariant-loop-index : goal.invariant-loop-index
invariant-loop-index l = record {
  can : (goal.iterator-loop-index).can_next l.index-iterator;
  finite : (goal.iterator-loop-index).is_finite l.index-iterator;
  made : plain_all l.symbols.items ≡ map_list symbol_of (map_list item_of l.yielded);
  named : All IsNamed (map_list item_of l.yielded);
}
