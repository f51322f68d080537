use Rattle.std.proofs.Common.{ap, ◌∙◌}
use Rattle.talk_threads.specs.InFront.{in_front}
use Rattle.talk_threads.proofs.talking.statements_in_front.Goals as goal

pub returns-in-Some : goal.returns-in-Some
returns-in-Some c = c.behind.ensures ∙ ap in_front c.in-Some.ensures

pub returns-in-None : goal.returns-in-None
returns-in-None c = ap in_front c.in-None.ensures
