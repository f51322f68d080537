use Rattle.std.proofs.Common.{◌∙◌, ap, not, refl, rules}
use Rattle.elf_section.specs.File.{section_name}
use Rattle.elf_section.proofs.SectionLaws.{none_text}
use Rattle.elf_section.proofs.Stages.{refuse_at}
use Rattle.elf_section.proofs.sections.check_section_names.Goals as goal

pub returns-then-is_none : goal.returns-then-is_none
returns-then-is_none c = rw c.outside.ensures (refuse_at c.args.file.now 8 c.loop-i.i c.requires.passed refl refl (λ j l _. c.loop-i.invariant j l)
    (λ h. none_text c.section_name.result (section_name c.args.file.now c.loop-i.i) c.section_name.ensures (c.is_none.ensures ∙ ap not c.if-is_none.true) (h (search rules))))
