use Rattle.elf_section.proofs.markers.says_any.Goals as goal

pub returns-in-Some : goal.returns-in-Some
returns-in-Some c = (c.in-Some.field-0.now, c.in-Some.ensures)

pub returns-in-None : goal.returns-in-None
returns-in-None c = λ any. c.in-None.ensures any.0 any.1
