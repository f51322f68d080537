use Rattle.std.proofs.Common.{◌∙◌}
use Rattle.rtt_ring.proofs.queue.QueueRingChannel.settle.Goals as goal

pub returns-clause-account : goal.returns-clause-account
returns-clause-account c = (c.new.ensures.account.0 ∙ c.of-sent.ensures, c.new.ensures.account.1 ∙ c.of-got.ensures, c.new.ensures.account.2)
