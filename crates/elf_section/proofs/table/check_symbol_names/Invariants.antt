use Rattle.std.proofs.Common.{◌<◌, ℕ}
use Rattle.std.specs.Prelude.{IsSome}
use Rattle.elf_section.specs.File.{symbol_name}
use Rattle.elf_section.proofs.table.check_symbol_names.Given as goal

abbrev pub invariant-loop-k : goal.invariant-loop-k
invariant-loop-k l = (j : ℕ) → 0 < j → j < l.k → IsSome (symbol_name l.file l.table.number j)
