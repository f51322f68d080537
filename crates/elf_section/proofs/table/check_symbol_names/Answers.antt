use Rattle.std.proofs.Common.{◌<◌, arith}
use Rattle.elf_section.specs.File.{count}
use Rattle.elf_section.proofs.TableLaws.{open_count, refuse_symbol_name, passed_symbol_names}
use Rattle.elf_section.proofs.table.check_symbol_names.Goals as goal

pub returns-then-not-has_name : goal.returns-then-not-has_name
returns-then-not-has_name c =
    let n = c.requires.count_is in
    let below : c.loop-k.k < count c.args.file.now c.args.table.now.number = omega (arith, n) in
    rw c.outside.ensures (refuse_symbol_name c.args.file.now c.args.table.now.number c.loop-k.k c.requires.passed c.requires.symbols (omega arith) below c.loop-k.invariant c.if-not-has_name.ensures)

pub returns : goal.returns
returns c =
    let n = c.requires.count_is in
    passed_symbol_names c.args.file.now c.args.table.now.number c.requires.passed c.requires.symbols (λ k above below. c.loop-k.invariant k above (omega (arith, n, below)))

pub overflow_cast-k : goal.overflow_cast-k
overflow_cast-k c =
    let n = open_count c.args.file.now c.args.table.now c.requires in
    let s = c.requires.short in
    omega (arith, n, s)
