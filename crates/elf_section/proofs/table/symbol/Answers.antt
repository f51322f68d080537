use Rattle.std.proofs.Common.{arith, ◌∙◌}
use Rattle.elf_section.proofs.TableLaws.{open_fits, open_symbol}
use Rattle.elf_section.proofs.table.symbol.Goals as goal

pub overflow_add-at : goal.overflow_add-at
overflow_add-at c =
    let f = open_fits c.args.file.now c.args.table.now c.symbol_len.result c.args.k c.requires.open c.requires.below c.symbol_len.ensures in
    omega (arith, f)

pub symbol_in-requires : goal.symbol_in-requires
symbol_in-requires c = open_fits c.args.file.now c.args.table.now c.symbol_len.result c.args.k c.requires.open c.requires.below c.symbol_len.ensures

pub returns : goal.returns
returns c = c.symbol_in.ensures ∙ open_symbol c.args.file.now c.args.table.now c.symbol_len.result c.args.k c.requires.open c.symbol_len.ensures

pub overflow_mul-at : goal.overflow_mul-at
overflow_mul-at c =
    let f = open_fits c.args.file.now c.args.table.now c.symbol_len.result c.args.k c.requires.open c.requires.below c.symbol_len.ensures in
    let short = c.requires.open.short in
    omega (arith, f, short)
