use Rattle.elf_section.proofs.Stages.{passes}
use Rattle.elf_section.proofs.symbols.profile_of.Goals as goal

pub returns : goal.returns
returns c = (passes c.args.file.now c.in_ok-checked.ensures.1, c.in_ok-checked.ensures.2)
