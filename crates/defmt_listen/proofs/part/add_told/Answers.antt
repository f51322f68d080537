use Rattle.defmt_listen.specs.Gathered.{gathered}
use Rattle.defmt_listen.proofs.Gathering.{told_behind, counted_one, counted_none}
use Rattle.defmt_listen.proofs.part.add_told.Goals as goal

pub returns-then-bad-clause-lines : goal.returns-then-bad-clause-lines
returns-then-bad-clause-lines g c =
    rw c.in-Some.is (told_behind (gathered c.args.report.now) c.put_aside.new.report.lines.items c.add_line.new.out.items c.put_aside.new.report.text.items
    (g.R.Reporter.reporting.line c.args.reporter.now c.in-Some.event) c.put_aside.new.report.end
    c.in_ok-put_aside.ensures.same c.in_ok-put_aside.ensures.none c.in_ok-add_line.ensures.appended)

pub returns-then-bad-clause-faults : goal.returns-then-bad-clause-faults
returns-then-bad-clause-faults g c =
    rw c.in-Some.is (counted_one g.R.Reporter.reporting.is_fault c.in-Some.event c.put_aside.new.report.faults c.args.report.now.faults c.if-bad.ensures c.put_aside.ensures.faults)

pub returns-else-bad-clause-lines : goal.returns-else-bad-clause-lines
returns-else-bad-clause-lines g c =
    rw c.in-Some.is (told_behind (gathered c.args.report.now) c.put_aside.new.report.lines.items c.add_line.new.out.items c.put_aside.new.report.text.items
    (g.R.Reporter.reporting.line c.args.reporter.now c.in-Some.event) c.put_aside.new.report.end
    c.in_ok-put_aside.ensures.same c.in_ok-put_aside.ensures.none c.in_ok-add_line.ensures.appended)

pub returns-else-bad-clause-faults : goal.returns-else-bad-clause-faults
returns-else-bad-clause-faults g c =
    rw c.in-Some.is (counted_none g.R.Reporter.reporting.is_fault c.in-Some.event c.put_aside.new.report.faults c.args.report.now.faults c.if-bad.ensures c.put_aside.ensures.faults)
