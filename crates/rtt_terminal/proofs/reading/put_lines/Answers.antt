use Rattle.std.proofs.Common.{◌-◌, length, arith}
use Rattle.rtt_terminal.proofs.ReadingLaws.{begins, switches, speaks, fails, shorter, few_so_far}
use Rattle.rtt_terminal.proofs.reading.put_lines.Goals as goal

pub items-init : goal.items-init
items-init c = begins c.args.bytes.now c.args.shown.now c.requires.none

pub items-preserved-in-Ok-Switch-default : goal.items-preserved-in-Ok-Switch-default
items-preserved-in-Ok-Switch-default c =
    let taken = rw c.in-Ok-Switch-default.field-0-0-is at c.in-Ok-Switch-default.ensures in
    rw c.in-Ok-Switch-default.field-0-0-is (switches c.args.bytes.now c.items.shown c.items.current c.items.rest.now c.in-Ok-Switch-default.after.now _ c.items.invariant taken.1 taken.0)

pub push-requires-clause-few : goal.push-requires-clause-few
push-requires-clause-few c =
    let taken = rw c.in-Ok-Line-default.field-0-0-is at c.in-Ok-Line-default.ensures in
    few_so_far c.args.bytes.now c.items.shown c.items.current c.items.rest.now c.in-Ok-Line-default.after.now _ c.items.invariant taken.0 c.requires.short

pub items-preserved : goal.items-preserved
items-preserved c =
    let taken = rw c.in-Ok-Line-default.field-0-0-is at c.in-Ok-Line-default.ensures in
    let grown = rw c.in-Ok-Line-default.field-0-0-is at c.in_ok-push-in-Ok-Line-default.ensures in
    speaks c.args.bytes.now c.items.shown c.push.new.self c.items.current c.items.rest.now c.in-Ok-Line-default.after.now c.in-Ok-Line-default.text.now c.items.invariant taken.1 taken.0 grown

pub overflow_sub-result : goal.overflow_sub-result
overflow_sub-result c = shorter c.args.bytes.now c.items.shown c.items.current c.items.rest.now c.items.invariant

pub returns-in-Err : goal.returns-in-Err
returns-in-Err c =
    let le = shorter c.args.bytes.now c.items.shown c.items.current c.items.rest.now c.items.invariant in
    (c.in-Err.cause, fails c.args.bytes.now c.items.shown c.items.current c.items.rest.now c.in-Err.cause (length c.args.bytes.now - length c.items.rest.now) c.items.invariant c.in-Err.ensures (omega (arith, le)), c.number.ensures)
