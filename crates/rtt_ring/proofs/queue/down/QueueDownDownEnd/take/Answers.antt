use Rattle.std.proofs.Common.{◌≡◌, ◌∙◌, length, take, drop, arith}
use Rattle.std.proofs.lemmas.List.{length-take-le, drop_at}
use Rattle.rtt_ring.proofs.queue.down.QueueDownDownEnd.take.Goals as goal

pub returns-clause-behind : goal.returns-clause-behind
returns-clause-behind c =
    let n = c.min-count.result in
    let many : length (take n c.args.buf.now) ≡ n = length-take-le n c.args.buf.now (omega arith) in
    drop_at c.pop_into.new.buf (drop n c.args.buf.now) n (c.pop_into.auto.buf ∙ many)
