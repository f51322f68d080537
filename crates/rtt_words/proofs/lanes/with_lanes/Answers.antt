use Rattle.std.proofs.Common.{rules, length, ap, ◌∙◌, arith}
use Rattle.rtt_words.proofs.LaneWords.{lanes_from, lanes_to, mixes, whole}
use Rattle.rtt_words.proofs.lanes.with_lanes.Goals as goal

pub returns : goal.returns
returns c =
    let v = c.loop-i.invariant in
    mixes _ _ _ c.loop-i.i _ c.to_le_bytes-lanes.result c.loop-i.lanes c.requires (omega arith) (lanes_to _ _ c.to_le_bytes-lanes.ensures) (lanes_from _ _ v.0 v.4 c.from_le_bytes-2.ensures) v.1 v.2 v.3

-- a whole word
pub returns-then-bytes-eq8 : goal.returns-then-bytes-eq8
returns-then-bytes-eq8 c =
    let after = c.copy_from_slice.ensures.after in
    whole _ _ _ _ c.requires (omega arith) (lanes_from _ _ (ap length after ∙ omega arith) (search rules) c.from_le_bytes.ensures ∙ after)
