use Rattle.std.proofs.Common.{◌≡◌, ℕ, List, ◌+◌, ◌-◌, ◌++◌, take, drop, arith, sym, ap, ◌∙◌}
use Rattle.rtt_words.proofs.LaneWords.{lanes_to}
use Rattle.rtt_ring.proofs.word.lanes.push_lanes.Goals as goal

pub returns-clause-items : goal.returns-clause-items
returns-clause-items c =
    let few : c.args.lane + c.args.count - c.args.lane ≡ c.args.count = omega arith in
    c.extend_reserved.ensures.items
    ∙ ap (λ (n : ℕ). c.args.rest.now.items ++ take n (drop c.args.lane c.to_le_bytes-found.result)) few
    ∙ ap (λ (l : List ℕ). c.args.rest.now.items ++ take c.args.count (drop c.args.lane l)) (sym (lanes_to _ _ c.to_le_bytes-found.ensures))
