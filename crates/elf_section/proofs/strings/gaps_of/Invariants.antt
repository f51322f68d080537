use Rattle.elf_section.proofs.StringLaws.{GapsFrom}
use Rattle.elf_section.proofs.strings.gaps_of.Given as goal

abbrev pub invariant-loop-i : goal.invariant-loop-i
invariant-loop-i l = GapsFrom l.bytes l.gaps.items l.i l.count l.after
