use Rattle.std.proofs.Common.{◌≡◌}
use Rattle.elf_section.specs.Symbol.{plain_refs}
use Rattle.elf_table.specs.Names.{Made}
use Rattle.elf_table.proofs.reading.table_of.Given as goal

abbrev pub invariant-loop-p : goal.invariant-loop-p
invariant-loop-p l = Made l.fn.language (plain_refs l.symbols) l.p l.table.entries × (l.table.profile ≡ l.fn.profile)
