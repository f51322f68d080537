use Rattle.std.proofs.Common.{arith}
use Rattle.rtt_control.proofs.RoundLemmas.{append_ahead, append_behind}
use Rattle.rtt_control.proofs.calls.append_round.Goals as goal

pub returns-in_ok-extend_from_slice : goal.returns-in_ok-extend_from_slice
returns-in_ok-extend_from_slice c =
    append_ahead c.args.out.now.items c.extend_from_slice.new.self.items c.args.buffer.now c.args.from c.args.to c.if-from-to.true c.requires.places.1 c.in_ok-extend_from_slice.ensures.ok

pub returns-in_ok-extend_from_slice-3 : goal.returns-in_ok-extend_from_slice-3
returns-in_ok-extend_from_slice-3 c =
    append_behind c.args.out.now.items c.extend_from_slice-else-from-to.new.self.items c.extend_from_slice-else-from-to-2.new.self.items c.args.buffer.now c.args.from c.args.to (omega arith) c.requires.places.0
    c.in_ok-extend_from_slice-2.ensures.ok c.in_ok-extend_from_slice-3.ensures.ok
