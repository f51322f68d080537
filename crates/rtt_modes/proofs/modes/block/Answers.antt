use Rattle.std.proofs.Common.{rules, arith}
use Rattle.rtt_modes.proofs.Pieces.{going_more}
use Rattle.rtt_modes.proofs.modes.block.Goals as goal

pub loop-preserved : goal.loop-preserved
loop-preserved g c =
    let v = c.loop.invariant in
    let s = c.send_front-more.ensures in
    (tt, tt, going_more _ _ _ _ _ _ v.2 s.sent.0 s.sent.1 s.kept s.looks, omega arith, search rules)
