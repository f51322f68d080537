use Rattle.std.proofs.Common.{◌≡◌, ◌≤◌, ◌+◌, length}
use Rattle.elf_section.specs.Listed.{symbols_below}
use Rattle.elf_section.specs.Symbol.{plain_refs}
use Rattle.elf_section.proofs.symbols.collect.Given as goal

abbrev pub invariant-loop-k : goal.invariant-loop-k
invariant-loop-k l = (plain_refs l.symbols.items ≡ symbols_below l.file l.defmt l.table.number l.k) × (l.table.count ≡ 0 → l.k ≡ 1) × (length l.symbols.items + 1 ≤ l.k)
