use Rattle.elf_section.proofs.TableLaws.{open_first}
use Rattle.elf_section.proofs.table.first_byte.Goals as goal

pub returns : goal.returns
returns c = open_first c.args.file.now c.args.table.now c.args.k c.symbol.result c.byte_at.result c.requires.open c.symbol.ensures c.byte_at.ensures
