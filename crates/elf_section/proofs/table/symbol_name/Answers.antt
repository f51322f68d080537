use Rattle.elf_section.proofs.TableLaws.{open_name}
use Rattle.elf_section.proofs.table.symbol_name.Goals as goal

pub returns : goal.returns
returns c = open_name c.args.file.now c.args.table.now c.args.k c.symbol.result c.text_at.result c.requires.open c.symbol.ensures c.text_at.ensures
