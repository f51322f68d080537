use Rattle.rtt_terminal.proofs.Taken.{line_cut, line_taken, line_refused}
use Rattle.rtt_terminal.proofs.item.line_before.Goals as goal

pub returns-in-empty : goal.returns-in-empty
returns-in-empty c = line_cut c.args.bytes.now c.split_line.result.1.now c.split_line.ensures.rest c.in-empty.len_below c.requires.some c.requires.line

pub returns-in-Ok : goal.returns-in-Ok
returns-in-Ok c = line_taken c.args.bytes.now c.split_line.result.0.now c.split_line.result.1.now c.in-Ok.text.now c.split_line.ensures.front c.split_line.ensures.rest c.in-len1-up.len_at_least c.in-Ok.ensures.cases.0 c.in-Ok.ensures.cases.1

pub returns-in-Err : goal.returns-in-Err
returns-in-Err c = line_refused c.args.bytes.now c.split_line.result.0.now c.split_line.result.1.now c.split_line.ensures.front c.split_line.ensures.rest c.in-len1-up.len_at_least c.in-Err.ensures.cases.0 c.requires.line
