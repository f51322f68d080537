use Rattle.rtt_terminal.proofs.Taken.{named_small}
use Rattle.rtt_terminal.proofs.digit.terminal_named.Goals as goal

pub returns-clause-one : goal.returns-clause-one
returns-clause-one c = named_small c.args.text.now c.named.result c.named.ensures
