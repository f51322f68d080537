use Rattle.elf_section.specs.Symbol.{plain_all}
use Rattle.elf_section.proofs.WritingLaws.{table_is}
use Rattle.elf_section.proofs.writing.push_symbols.Goals as goal

pub returns : goal.returns
returns c = rw (c.in_ok-push_list.ensures, c.markers_len-len.ensures.value, c.in_ok-push_markers.ensures, c.in_ok-push_symbol.ensures) (table_is c.args.out.now.items c.args.profile (plain_all c.args.symbols.now))
