use Rattle.std.proofs.Common.{arith}
use Rattle.elf_section.specs.Checks as check
use Rattle.elf_section.proofs.SectionLaws.{names_fit}
use Rattle.elf_section.proofs.sections.names_of.Goals as goal

pub section-names-requires-clause-below : goal.section-names-requires-clause-below
section-names-requires-clause-below c = rw c.header_of.ensures.value (c.requires.passed.all check.has_names (omega arith)).0

pub contents-requires : goal.contents-requires
contents-requires c = names_fit c.args.file.now c.header_of.result c.section-names.result c.requires.passed c.header_of.ensures.value c.section-names.ensures.value
