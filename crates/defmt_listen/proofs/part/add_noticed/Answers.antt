use Rattle.std.proofs.Common.{◌++◌, ◌∙◌, ℕ, List, ap, drop, sym, take}
use Rattle.std.proofs.lemmas.List.{append-nil}
use Rattle.defmt_listen.specs.Gathered.{gathered}
use Rattle.defmt_listen.proofs.Gathering.{counted_none}
use Rattle.defmt_listen.proofs.part.add_noticed.Goals as goal

pub returns-in-Event-clause-lines : goal.returns-in-Event-clause-lines
returns-in-Event-clause-lines g c = rw c.in-Event.is c.add_told.ensures.lines

pub returns-in-Event-clause-faults : goal.returns-in-Event-clause-faults
returns-in-Event-clause-faults g c = rw c.in-Event.is c.add_told.ensures.faults

pub returns-in-Nothing-clause-lines : goal.returns-in-Nothing-clause-lines
returns-in-Nothing-clause-lines g c = rw c.in-Nothing.is (sym (append-nil (gathered c.args.report.now)))

pub returns-in_ok-add_line_told-in-Line-clause-lines : goal.returns-in_ok-add_line_told-in-Line-clause-lines
returns-in_ok-add_line_told-in-Line-clause-lines g c =
    rw c.in-Line.is (c.in_ok-add_line_told-in-Line.ensures.lines ∙ ap (λ (l : List ℕ). gathered c.args.report.now ++ l) (sym (append-nil _)))

pub returns-in_ok-add_line_told-in-Line-clause-faults : goal.returns-in_ok-add_line_told-in-Line-clause-faults
returns-in_ok-add_line_told-in-Line-clause-faults g c =
    rw c.in-Line.is (counted_none g.R.Reporter.reporting.is_fault (g.L.Listener.line c.in-Line.origin (take c.in-Line.size (drop c.args.report.now.end c.args.report.now.text.items)))
    c.add_line_told.new.report.faults c.args.report.now.faults (sym c.in_ok-add_line_told-in-Line.ensures.fine) c.in_ok-add_line_told-in-Line.ensures.faults)
