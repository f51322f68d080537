use Rattle.std.proofs.Common.{arith}
use Rattle.elf_section.specs.Checks as check
use Rattle.elf_section.proofs.TableLaws.{link_below, strings_fit}
use Rattle.elf_section.proofs.table.open_table.Goals as goal

pub section-strings-requires-clause-below : goal.section-strings-requires-clause-below
section-strings-requires-clause-below c = link_below c.args.file.now c.args.i c.section-table.result c.requires.passed c.requires.symbols c.section-table.ensures.value

pub class_of-requires : goal.class_of-requires
class_of-requires c = omega (arith, (c.requires.passed.all check.is_elf (omega arith)).0)

pub contents-requires : goal.contents-requires
contents-requires c = strings_fit c.args.file.now c.args.i c.section-table.result c.section-strings.result c.requires.passed c.requires.symbols c.section-table.ensures.value c.section-strings.ensures.value
