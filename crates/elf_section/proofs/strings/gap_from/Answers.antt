use Rattle.std.proofs.Common.{arith}
use Rattle.elf_section.proofs.StringLaws.{gap_near, gap_far, gap_room}
use Rattle.elf_section.proofs.strings.gap_from.Goals as goal

pub returns-then-here-stop-clause-value : goal.returns-then-here-stop-clause-value
returns-then-here-stop-clause-value c = gap_near c.args.bytes.now c.args.at c.args.stop c.gap-here.result c.gap-here.ensures (omega arith)

pub returns-else-here-stop-clause-value : goal.returns-else-here-stop-clause-value
returns-else-here-stop-clause-value c =
    let far = gap_far c.args.bytes.now c.args.at c.args.stop c.gap-here.result c.requires.order c.requires.inside c.gap-here.ensures (omega arith) in
    let after = c.requires.after in
    omega (arith, far, after)

pub returns-else-here-stop-clause-bound : goal.returns-else-here-stop-clause-bound
returns-else-here-stop-clause-bound c =
    let far = gap_far c.args.bytes.now c.args.at c.args.stop c.gap-here.result c.requires.order c.requires.inside c.gap-here.ensures (omega arith) in
    let after = c.requires.after in
    let room = gap_room c.args.bytes.now c.args.at (omega arith) in
    omega (arith, far, after, room)

pub overflow_add-result : goal.overflow_add-result
overflow_add-result c =
    let far = gap_far c.args.bytes.now c.args.at c.args.stop c.gap-here.result c.requires.order c.requires.inside c.gap-here.ensures (omega arith) in
    let after = c.requires.after in
    let room = gap_room c.args.bytes.now c.args.at (omega arith) in
    omega (arith, far, after, room)
