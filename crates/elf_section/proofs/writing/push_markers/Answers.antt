use Rattle.elf_section.proofs.WritingLaws.{first_markers, second_markers}
use Rattle.elf_section.proofs.writing.push_markers.Goals as goal

pub returns-in-One : goal.returns-in-One
returns-in-One c = rw (c.in-One.is, c.in_ok-push_symbol-2.ensures, c.in_ok-push_symbol.ensures) (first_markers c.args.out.now.items)

pub returns-in_ok-push_symbol-in-Two : goal.returns-in_ok-push_symbol-in-Two
returns-in_ok-push_symbol-in-Two c = rw (c.in-Two.is, c.in_ok-push_symbol-in-Two.ensures, c.in_ok-push_symbol-2.ensures, c.in_ok-push_symbol.ensures) (second_markers c.args.out.now.items)
