use Rattle.defmt_listen.proofs.Gathering.{line_ended}
use Rattle.defmt_listen.proofs.report.end_line.Goals as goal

pub returns-clause-lines : goal.returns-clause-lines
returns-clause-lines c = line_ended c.args.report.now.lines.items c.args.report.now.text.items c.put_newline.new.text.items c.args.report.now.end c.args.size c.in_ok-put_newline.ensures.put
