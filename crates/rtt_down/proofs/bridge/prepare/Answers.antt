use Rattle.rtt_down.proofs.bridge.prepare.Goals as goal

pub returns-clause-steers : goal.returns-clause-steers
returns-clause-steers c = c.in_ok-course.ensures.steers c.args.script.now
