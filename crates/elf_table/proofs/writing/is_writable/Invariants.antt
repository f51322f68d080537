use Rattle.std.proofs.Common.{◌≡◌, ◌+◌, ◌^◌, map as map_list}
use Rattle.std.specs.List.{sum_by}
use Rattle.elf_table.specs.Listed.{item_size}
use Rattle.elf_table.proofs.ListedLaws.{item_of}
use Rattle.elf_table.proofs.writing.is_writable.Given as goal

abbrev pub invariant-loop-entry : goal.invariant-loop-entry
invariant-loop-entry l = record {
  can : (goal.iterator-loop-entry).can_next l.entry-iterator;
  finite : (goal.iterator-loop-entry).is_finite l.entry-iterator;
  left : l.left + sum_by item_size (map_list item_of l.yielded) ≡ 2 ^ 26;
}
