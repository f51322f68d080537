use Rattle.std.proofs.Common.{arith, ap, length}
use Rattle.elf_tests.proofs.WritableLaws.{pushed}
use Rattle.elf_tests.proofs.symbols.list_of.Goals as goal

pub loop-line-preserved : goal.loop-line-preserved
loop-line-preserved c =
    let name = c.in_ok-name.ensures.items in
    let len = ap length name in
    pushed c.loop-line.list.items c.push.new.self.items _ c.loop-line.line-index c.in_ok-push.ensures.items c.loop-line.invariant (omega arith) (omega (arith, len)) (rw name c.if-not-is_text.ensures)
