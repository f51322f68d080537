use Rattle.std.proofs.Common.{arith}
use Rattle.rtt_modes.proofs.Pieces.{kept_on}
use Rattle.ring_bench.proofs.Runs.{kept_first, sent_first, sent_more}
use Rattle.ring_bench.proofs.passage.send_all.Goals as goal

pub loop-done-init : goal.loop-done-init
loop-done-init g c = (omega arith, sent_first _ _, kept_first _ c.requires.staged)

pub loop-done-preserved : goal.loop-done-preserved
loop-done-preserved g c =
    let v = c.loop-done.invariant in
    (omega arith, sent_more _ _ _ _ _ v.1 c.block.ensures.sent, kept_on _ _ _ v.2 c.block.ensures.kept)
