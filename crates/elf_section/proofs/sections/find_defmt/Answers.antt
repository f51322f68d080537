use Rattle.std.proofs.Common.{refl, arith}
use Rattle.elf_section.specs.File.{HasDefmtName}
use Rattle.elf_section.specs.Checks as check
use Rattle.elf_section.proofs.SectionLaws.{none_first}
use Rattle.elf_section.proofs.Stages.{refuse}
use Rattle.elf_section.proofs.sections.find_defmt.Goals as goal

pub returns : goal.returns
returns c = rw c.alone.ensures (refuse c.args.file.now check.has_defmt c.requires.passed refl
    (none_first c.args.file.now (HasDefmtName c.args.file.now) c.header_of-i-end.result c.loop-i.i c.header_of-i-end.ensures.value (omega arith) c.loop-i.invariant))
