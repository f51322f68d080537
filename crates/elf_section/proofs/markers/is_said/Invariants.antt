use Rattle.std.proofs.Common.{◌<◌, ℕ}
use Rattle.elf_section.specs.Checks.{SaysAny}
use Rattle.elf_section.proofs.markers.is_said.Given as goal

abbrev pub invariant-loop-k : goal.invariant-loop-k
invariant-loop-k l = (j : ℕ) → j < l.k → SaysAny l.file l.table.number l.front j → ⊥
