use Rattle.std.proofs.Common.{arith}
use Rattle.elf_section.proofs.TableLaws.{none_more}
use Rattle.elf_section.proofs.markers.is_said.Goals as goal

pub loop-k-init : goal.loop-k-init
loop-k-init c = λ j l any. let above = any.1.above in absurd (omega (arith, l, above))

pub returns-then-says_any : goal.returns-then-says_any
returns-then-says_any c = (c.loop-k.k, c.if-says_any.ensures)

pub loop-k-preserved : goal.loop-k-preserved
loop-k-preserved c = none_more c.args.file.now c.args.table.now.number c.args.front.now c.loop-k.k c.loop-k.invariant c.if-says_any.ensures

pub returns : goal.returns
returns c = λ said.
    let n = c.requires.count_is in
    let below = said.1.1.below in
    c.loop-k.invariant said.0 (omega (arith, n, below)) said.1
