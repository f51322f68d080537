use Rattle.rtt_terminal.proofs.Taken.{switch_missing, switch_refused, switch_taken}
use Rattle.rtt_terminal.proofs.item.switch_behind.Goals as goal

pub returns-in-empty : goal.returns-in-empty
returns-in-empty c = switch_missing c.args.bytes.now c.in-empty.len_below

pub returns-in-Some : goal.returns-in-Some
returns-in-Some c = switch_taken c.args.bytes.now c.in-Some.terminal c.in-len1-up.len_at_least c.in-Some.ensures

pub returns-in-None : goal.returns-in-None
returns-in-None c = switch_refused c.args.bytes.now c.in-len1-up.len_at_least c.in-None.ensures
