use Rattle.elf_section.proofs.TableLaws.{open_has}
use Rattle.elf_section.proofs.table.has_name.Goals as goal

pub returns : goal.returns
returns c = open_has c.args.file.now c.args.table.now c.args.k c.symbol.result c.has_text_at.result c.requires.open c.symbol.ensures c.has_text_at.ensures
