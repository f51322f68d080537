use Rattle.elf_section.specs.Checks.{Seen}
use Rattle.elf_section.proofs.markers.has_marker.Given as goal

abbrev pub invariant-symbols : goal.invariant-symbols
invariant-symbols l = Seen l.file l.table.number l.front l.value l.k l.seen
