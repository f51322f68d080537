use Rattle.rtt_terminal.proofs.ReadingLaws.{gives_only, refuses_only}
use Rattle.rtt_terminal.proofs.reading.read_terminals.Goals as goal

pub returns-clause-shown : goal.returns-clause-shown
returns-clause-shown c = λ screens s. gives_only c.args.bytes.now c.screens_of.result screens c.screens_of.ensures s

pub returns-clause-refused : goal.returns-clause-refused
returns-clause-refused c = λ cause place f. refuses_only c.args.bytes.now c.screens_of.result cause place c.screens_of.ensures f
