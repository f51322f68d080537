use Rattle.elf_section.specs.Symbol.{plain_all}
use Rattle.elf_section.proofs.WritingLaws.{strings_are}
use Rattle.elf_section.proofs.writing.push_strings.Goals as goal

pub returns : goal.returns
returns c = rw (c.in_ok-push_names.ensures, c.in_ok-extend_from_slice.ensures.ok, c.marker_names.ensures, c.in_ok-push.ensures.ok) (strings_are c.args.out.now.items c.args.profile (plain_all c.args.symbols.now))
